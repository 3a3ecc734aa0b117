-- What a tray holds, and how many places it has.
use Rattle.std.specs.Prelude.{ℕ, List, length}
use Rattle.fifo.specs.Row.{waiting}
use Rattle.fifo.specs.declared.tray.Tray.{Tray}

module _ {T : Type 0} where
  -- the elements that wait in the lent slots, oldest first
  abbrev pub held : Tray T → List T
  held tray = waiting tray.slots.now tray.cursor

  -- how many slots were lent
  abbrev pub places : Tray T → ℕ
  places tray = length tray.slots.now
