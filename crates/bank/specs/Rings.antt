-- The meaning of a ring bank: each lane is a queue of depth 16.
use Rattle.std.specs.Prelude.{ℕ, List, [], map, Ok, Err, Result}
use Rattle.fifo.specs.Row.{waiting}
use Rattle.fifo.specs.declared.cursor.Full.{Full as RowFull}
use Rattle.bank.specs.Queues.{Queue}
use Rattle.bank.specs.declared.bank.Fault.{Fault}
use Rattle.bank.specs.declared.bank.Fault.TheVariants.{Full}
use Rattle.bank.specs.declared.ring.lane.Lane.{Lane}
use Rattle.bank.specs.declared.ring.Ring.{Ring}

-- the words that wait in a lane, oldest first
abbrev pub lane_words : Lane → List ℕ
lane_words lane = waiting lane.slots lane.cursor

abbrev pub lane_queue : Lane → Queue
lane_queue lane = record { depth = 16; words = lane_words lane }

abbrev pub lane_queues : List Lane → List Queue
lane_queues lanes = map lane_queue lanes

abbrev pub ring_queues : Ring → List Queue
ring_queues ring = lane_queues ring.lanes

-- what a row answers to a put, as the bank answers it
abbrev pub as_fault : Result (Unit {0}) RowFull → Result (Unit {0}) Fault
as_fault (Ok t) = Ok tt
as_fault (Err f) = Err Full

-- a queue of depth 16 with no word
abbrev pub fresh : Queue
fresh = record { depth = 16; words = [] }
