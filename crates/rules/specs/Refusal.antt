-- The answer to a command, and the number of each refusal.
use Rattle.std.specs.Prelude.{ℕ, Ok, Err, Result}
use Rattle.rules.specs.declared.refusal.Refusal.{Refusal}
use Rattle.rules.specs.declared.refusal.Refusal.TheVariants.{UnknownCaller, UnknownMailbox, UnknownDomain, NoArbiter, NotPermitted, NotItsMailbox, WrongDirection, NotWired, OutOfRange, UnknownRoute, NotEntitled, QueueFull, QueueEmpty}

abbrev pub number : Refusal → ℕ
number UnknownCaller = 5
number UnknownMailbox = 6
number UnknownDomain = 7
number NoArbiter = 8
number NotPermitted = 9
number NotItsMailbox = 10
number WrongDirection = 11
number NotWired = 12
number OutOfRange = 13
number UnknownRoute = 14
number NotEntitled = 15
number QueueFull = 16
number QueueEmpty = 17

-- accepted, with a value of 32 bits, or refused
abbrev pub Answer : Type 0
Answer = Result ℕ Refusal

-- an answer as it is shown: 0 and the value, or the number of the refusal and 0
abbrev pub code : Answer → ℕ
code (Ok v) = 0
code (Err r) = number r

abbrev pub value_of : Answer → ℕ
value_of (Ok v) = v
value_of (Err r) = 0
