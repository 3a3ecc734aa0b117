-- A first-in first-out row: which elements wait in the slots, and what each call makes of them.
use Rattle.std.specs.Prelude.{ℕ, ◌+◌, ◌-◌, ◌%◌, min, Bool, cond, List, [], ◌∷◌, ◌++◌, length, take, drop, Some, None, Ok, Err, Option, Result, ◌==◌, nat_lt}
use Rattle.fifo.specs.declared.cursor.Cursor.{Cursor}
use Rattle.fifo.specs.declared.cursor.Full.{Full}

module _ {T : Type 0} where
  -- the slots in their order from `first` on, going round the end
  abbrev pub rotated : List T → ℕ → List T
  rotated slots first = drop first slots ++ take first slots

  -- The elements that wait, oldest first: `count` of them from the slot `first` on. No cursor is wrong: a `first` past
  -- the end is read as 0, and a count above the number of slots as that number.
  abbrev pub waiting : List T → Cursor → List T
  waiting slots cursor = take cursor.count (rotated slots cursor.first)

  -- as many wait as there are slots
  abbrev pub full : ℕ → List T → Bool
  full size ws = length ws == size

  -- a put appends, or refuses exactly when the row is full; `record {}` is the one value of `Full`
  abbrev pub put_answer : ℕ → List T → Result (Unit {0}) Full
  put_answer size ws = cond (full size ws) (Err (record {})) (Ok tt)

  abbrev pub put_waiting : ℕ → List T → T → List T
  put_waiting size ws x = cond (full size ws) ws (ws ++ x ∷ [])

  -- a take removes and answers the oldest, or answers none exactly when none waits
  abbrev pub oldest : List T → Option T
  oldest [] = None
  oldest (x ∷ ws) = Some x

  abbrev pub rest : List T → List T
  rest [] = []
  rest (x ∷ ws) = ws

-- Where a row of `size` slots lies after a call.

-- the slot of the oldest element
abbrev pub start : ℕ → Cursor → ℕ
start size cursor = cond (nat_lt cursor.first size) cursor.first 0

-- the slot that the next element goes into
abbrev pub free : ℕ → Cursor → ℕ
free size cursor = (start size cursor + cursor.count) % size

-- one element more at the end, and the oldest gone
abbrev pub longer : ℕ → Cursor → Cursor
longer size cursor = record { first = start size cursor; count = cursor.count + 1 }

abbrev pub shorter : ℕ → Cursor → Cursor
shorter size cursor = record { first = (start size cursor + 1) % size; count = min cursor.count size - 1 }

-- nothing waits, whatever lies in the slots
abbrev pub empty : Cursor
empty = record { first = 0; count = 0 }
