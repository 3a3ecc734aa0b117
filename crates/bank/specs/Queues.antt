-- The meaning of a bank: ten queues of words, what each call answers, and what it makes of them.
use Rattle.std.specs.Prelude.{◌≡◌, ℕ, ◌<◌, ◌≤◌, Bool, cond, List, [], ◌∷◌, ◌++◌, length, Ok, Err, Result, ◌==◌, slice_index, slice_index_or, slice_set}
use Rattle.fifo.specs.Row.{rest}
use Rattle.bank.specs.declared.bank.Fault.{Fault}
use Rattle.bank.specs.declared.bank.Fault.TheVariants.{Full, Empty}

-- a queue: how many words it can hold, and the words that wait, oldest first
pub record Queue : Type 0 where
  pub depth : ℕ
  pub words : List ℕ

-- what stands at a number above 9
abbrev pub no_queue : Queue
no_queue = record { depth = 0; words = [] }

-- the queue of a number
abbrev pub at : List Queue → ℕ → Queue
at qs q = slice_index_or qs q no_queue

-- queue q is changed by f, and no other queue is; at a number above 9 nothing is
abbrev pub change : (Queue → Queue) → List Queue → ℕ → List Queue
change f qs q = slice_set qs q (f (at qs q))

-- the same depth, other words
abbrev pub with_words : Queue → List ℕ → Queue
with_words u ws = record { depth = u.depth; words = ws }

-- Put: as full as it is deep, or one word more.
abbrev pub full : Queue → Bool
full u = length u.words == u.depth

abbrev pub put_answer : List Queue → ℕ → Result (Unit {0}) Fault
put_answer qs q = cond (full (at qs q)) (Err Full) (Ok tt)

abbrev pub grown : ℕ → Queue → Queue
grown word u = with_words u (u.words ++ word ∷ [])

-- Take: no word waits, or the oldest one leaves.
abbrev pub empty : Queue → Bool
empty u = length u.words == 0

abbrev pub oldest : Queue → ℕ
oldest u = slice_index u.words 0

abbrev pub take_answer : List Queue → ℕ → Result ℕ Fault
take_answer qs q = cond (empty (at qs q)) (Err Empty) (Ok (oldest (at qs q)))

abbrev pub shrunk : Queue → Queue
shrunk u = with_words u (rest u.words)

-- Wipe: no word is left.
abbrev pub wiped : Queue → Queue
wiped u = with_words u []

-- The law of every bank.
pub record Sound (qs : List Queue) : Type 0 where
  pub ten : length qs ≡ 10
  pub least : (q : ℕ) → q < 10 → 1 ≤ (at qs q).depth
  pub most : (q : ℕ) → (at qs q).depth ≤ 4096
  pub fits : (q : ℕ) → length (at qs q).words ≤ (at qs q).depth
