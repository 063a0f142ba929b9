-- How the fields of the nodes stand for what contracts see.
use Rattle.std.specs.Prelude.{◌≡◌, ◌-◌, [], map, vec_len, vec_capacity, Option, None, Some}
use Rattle.guest_rules.specs.declared.shapes.Shape.{Shape}
use Rattle.backup_image.specs.Images.{ImageState, empty_image}
use Rattle.pair_core.specs.declared.nodes.Nodes.TheInside.{Inside}
use Rattle.pair_core.specs.Nodes.{Housed, node_of}

-- the image, if there is one
abbrev pub image_or : Shape → Option ImageState → ImageState
image_or shape None = empty_image shape
image_or shape (Some image) = image

abbrev pub housed : Inside → Housed
housed a = record {
  nodes = record { live = node_of a.live; image = image_or a.shape a.image; sealed = map (λ text. text.items) a.sealed.items };
  room = vec_capacity a.sealed - vec_len a.sealed;
}

-- the image has the shape of the nodes, and where there is no image nothing is sealed
pub record AreFields (a : Inside) : Type 0 where
  pub shape : (image_or a.shape a.image).shape ≡ a.shape
  pub unsealed : a.image ≡ None → a.sealed.items ≡ []
