-- The state register of a mailbox: its 32 bits, and what one access and one tick make of it.
use Rattle.std.specs.Prelude.{ℕ, ◌+◌, ◌-◌, ◌*◌, ◌/◌, ◌%◌, ◌^◌, min, cond, ◌==◌}
use Rattle.rules.specs.declared.register.Register.{Register}

-- in limit and time, the figure that never falls
abbrev pub unlimited : ℕ
unlimited = 4095

-- the register of a fresh mailbox, and of every mailbox of the manager, who is domain 0
abbrev pub managers : Register
managers = record { owner = 0; limit = unlimited; time = unlimited }

-- Owner in bits 31 to 24, limit in bits 23 to 12, time in bits 11 to 0. Limit and time have 12 bits each: a figure above
-- 4095, which no run gives to a mailbox (the laws `limits` and `times`), would read as 4095.
abbrev pub packed : Register → ℕ
packed r = r.owner * 2 ^ 24 + min r.limit unlimited * 2 ^ 12 + min r.time unlimited

abbrev pub unpacked : ℕ → Register
unpacked word = record { owner = word / 2 ^ 24; limit = word / 2 ^ 12 % 2 ^ 12; time = word % 2 ^ 12 }

-- A finite figure falls by 1. Where it falls to 0 it is spent, and the holding ends: 0 never stands.
abbrev pub fallen : ℕ → ℕ
fallen figure = cond (figure == unlimited) unlimited (figure - 1)

-- one access by the owner: the limit falls
abbrev pub accessed : Register → Register
accessed r = record { owner = r.owner; limit = fallen r.limit; time = r.time }

-- one tick: the time falls
abbrev pub ticked : Register → Register
ticked r = record { owner = r.owner; limit = r.limit; time = fallen r.time }
