-- What is around two nodes: the network to their clients, and the list of all frames that they let out.
use Rattle.std.specs.Prelude.{ℕ, ◌+◌, List, [], ◌∷◌, ◌++◌, length, replicate, drop, remove}
use Rattle.frame_ports.specs.Addresses.{targets_of}
use Rattle.frame_ports.specs.Lands.{list_of, with_list, lands}
use Rattle.pair_history.specs.Entries.{Frame}

-- THE NETWORK between the clients and whichever node is live. Client c's lists stand at place c - 1.
pub record Network : Type 0 where
  -- the number of the next frame that a client sends
  pub next : ℕ
  -- what clients sent that hasn't come to the guest, each frame with its number; and what came of the guest's frames that clients haven't taken
  pub inboxes : List (List (ℕ × Frame))
  pub boxes : List (List Frame)

abbrev pub empty_network : ℕ → Network
empty_network clients = record { next = 1; inboxes = replicate clients []; boxes = replicate clients [] }

-- frames are let out: each comes to the boxes of the clients that it is addressed to
abbrev pub with_frames : Network → List Frame → Network
with_frames n fs = record n { boxes = lands n.boxes (targets_of (length n.boxes) fs) }

-- a client sends a frame; the first one of its inbox comes to the guest; it takes the first one of its box
abbrev pub with_sent : Network → ℕ → List ℕ → Network
with_sent n c bytes = record n {
  next = n.next + 1;
  inboxes = with_list n.inboxes c (list_of n.inboxes c ++ (n.next, record { items = bytes }) ∷ []);
}

abbrev pub without_first : Network → ℕ → Network
without_first n c = record n { inboxes = with_list n.inboxes c (drop 1 (list_of n.inboxes c)) }

abbrev pub with_taken : Network → ℕ → Network
with_taken n c = record n { boxes = with_list n.boxes c (drop 1 (list_of n.boxes c)) }

-- a frame is lost on its way to the guest, or to a client
abbrev pub with_lost_in : Network → ℕ → ℕ → Network
with_lost_in n c place = record n { inboxes = with_list n.inboxes c (remove (list_of n.inboxes c) place) }

abbrev pub with_lost_out : Network → ℕ → ℕ → Network
with_lost_out n c place = record n { boxes = with_list n.boxes c (remove (list_of n.boxes c) place) }

-- EVERY FRAME THAT NODES EVER LET OUT, to whatever address, in the order let out: by each node that was live before, and by the one that is.

-- The turn of a node that was live: what it let out, and behind that what is lost of it where the next one goes live.
pub record Turn : Type 0 where
  pub let_out : List Frame
  pub lost : List Frame

pub record Output : Type 0 where
  pub before : List Turn
  pub now : List Frame

abbrev pub no_output : Output
no_output = record { before = []; now = [] }

abbrev pub with_out : Output → List Frame → Output
with_out o fs = record o { now = o.now ++ fs }

-- another node goes live, and these are lost
abbrev pub with_next : Output → List Frame → Output
with_next o lost = record { before = o.before ++ record { let_out = o.now; lost = lost } ∷ []; now = [] }

-- what these sent: what they let out, with what was lost
abbrev pub frames_in : List Turn → List Frame
frames_in [] = []
frames_in (t ∷ ts) = t.let_out ++ (t.lost ++ frames_in ts)
