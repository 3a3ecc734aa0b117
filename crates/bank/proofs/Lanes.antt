-- What a call leaves in one lane it leaves in that lane's queue, and no other queue is changed.
use Rattle.std.proofs.Common.{◌≡◌, ℕ, ◌<◌, List, [], ◌∷◌, ◌++◌, get_or, set, sym, ap, ◌∙◌, length}
use Rattle.fifo.specs.Row.{rest}
use Rattle.bank.specs.Queues.{at, change, grown, shrunk, wiped}
use Rattle.bank.specs.Rings.{lane_words, lane_queue, lane_queues}
use Rattle.bank.specs.RingsLemmas.{at_lane, change_lane, deep_16, same_lane as same_queue}
use Rattle.bank.specs.declared.ring.lane.Lane.{Lane}

-- A call finds `lane` at the place q, and leaves `after` there.
module _ (lanes : List Lane) (q : ℕ) (lane after : Lane) (within : q < length lanes) (found : lane ≡ get_or lanes q lane) where
  queue_found : at (lane_queues lanes) q ≡ lane_queue lane
  queue_found = at_lane lanes q lane within ∙ ap lane_queue (sym found)

  pub same_lane : lane_words after ≡ lane_words lane → lane_queues (set lanes q after) ≡ lane_queues lanes
  same_lane e = same_queue lanes q lane after queue_found e

  pub grown_lane : (word : ℕ) → lane_words after ≡ lane_words lane ++ word ∷ [] → lane_queues (set lanes q after) ≡ change (grown word) (lane_queues lanes) q
  grown_lane word e = change_lane lanes q lane after queue_found (grown word) (deep_16 e)

  pub shrunk_lane : lane_words after ≡ rest (lane_words lane) → lane_queues (set lanes q after) ≡ change shrunk (lane_queues lanes) q
  shrunk_lane e = change_lane lanes q lane after queue_found shrunk (deep_16 e)

  pub wiped_lane : lane_words after ≡ [] → lane_queues (set lanes q after) ≡ change wiped (lane_queues lanes) q
  wiped_lane e = change_lane lanes q lane after queue_found wiped (deep_16 e)
