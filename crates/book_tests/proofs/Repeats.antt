-- The checkpoints of a machine that was settled and has made no step since make its guest again, and so what is prepared of them.
use Rattle.std.proofs.Common.{◌≡◌, ℕ, zero, suc, ◌*◌, ◌≤◌, [], length, refl, sym, ◌∙◌, arith}
use Rattle.guest_rules.specs.Guest.{Guest, State}
use Rattle.epoch_snapshot.specs.{Bases.IsBase, Checkpoints.Change, Images.image_of}
use Rattle.checkpoint_stream.specs.ReadBack.{ReadsBack}
use Rattle.pair_history.specs.HistoryState.{HistoryState}
use Rattle.growing_history.specs.SealedTexts.{Makes}
use Rattle.pair_book.specs.Made.{Reads, carried}
use Rattle.pair_book.specs.Packets.{PacketState}
use Rattle.book_tests.specs.Machines.{IsLike, Repeats}

-- such a machine's guest is one that its delta stands over
base-at : (m : State) → m.settled ≡ m.guest.ram → IsBase m m.guest
base-at m settled = record { ram = sym settled; size = refl; sectors = λ i low clean. refl }

module _ (m : State) (c : Change) (version : c.version ≡ 2) (pages : length m.guest.ram ≡ 4096 * c.shape.pages)
    (sectors : length m.guest.sectors ≡ 512 * c.shape.sectors) (frames : c.frames ≡ []) where
  pub delta-repeats : (n : ℕ) → 1 ≤ n → c.number ≡ n → m.settled ≡ m.guest.ram
      → ((base : Guest) → IsBase m base → image_of c base ≡ m.guest) → Repeats m.guest c
  delta-repeats n some number settled image = record {
    version = version;
    ram = pages;
    sectors = sectors;
    frames = frames;
    again = image m.guest (base-at m settled);
    full = λ none. absurd (omega (arith, some, number, none));
  }

  pub full-repeats : ((base : Guest) → image_of c base ≡ m.guest) → Repeats m.guest c
  full-repeats image = record {
    version = version;
    ram = pages;
    sectors = sectors;
    frames = frames;
    again = image m.guest;
    full = λ none. image;
  }

-- the text of such a checkpoint
module _ (start : HistoryState) (g : Guest) (c : Change) (p : PacketState) (like : IsLike start g) (repeats : Repeats g c)
    (back : ReadsBack c p.text) where
  reads : (base : Guest) → image_of c base ≡ g → Reads start p.text [] base g
  reads base makes = record {
    change = c;
    reads_back = back;
    of_shape = record { ram = like.ram ∙ repeats.ram; sectors = like.sectors ∙ repeats.sectors };
    carries = repeats.frames;
    makes = makes;
  }

  makes-at : (n : ℕ) → c.number ≡ n → Makes (Reads start) n p.text (carried n []) g g
  makes-at zero none = λ base. reads base (repeats.full none base)
  makes-at (suc n) some = reads g repeats.again

  pub text-made : p.number ≡ c.number → Makes (Reads start) p.number p.text (carried p.number []) g g
  text-made number = makes-at p.number (sym number)
