-- The reset guard of a domain: what a value written to it does.
use Rattle.std.specs.Prelude.{ℕ, Bool, true, false, cond, ◌==◌}
use Rattle.rules.specs.declared.guard.Effect.{Effect}
use Rattle.rules.specs.declared.guard.Effect.TheVariants.{Arms, Tries, Rests}
use Rattle.rules.specs.declared.guard.Guard.{Guard}
use Rattle.rules.specs.declared.guard.Stance.{Stance}
use Rattle.rules.specs.declared.guard.Stance.TheVariants.{Idle, Armed}

-- the value that arms a guard, and the value that tries the reset
abbrev pub arm : ℕ
arm = 0xDEADBEEF

abbrev pub try : ℕ
try = 0xDEADDEAD

-- the results of a try: the domain was reset, or the try was blocked
abbrev pub done : ℕ
done = 0x0000AAAA

abbrev pub barred : ℕ
barred = 0x0000FFFF

abbrev pub fresh_guard : Guard
fresh_guard = record { stance = Idle; result = done }

-- The second value tries the reset only where the first has armed the guard; any other value, or the second to an idle
-- guard, leaves it idle.
abbrev pub effect : Stance → ℕ → Effect
effect Idle v = cond (v == arm) Arms Rests
effect Armed v = cond (v == try) Tries (cond (v == arm) Arms Rests)

abbrev pub tries : Effect → Bool
tries Arms = false
tries Tries = true
tries Rests = false

abbrev pub tried : Bool → Guard
tried blocked = record { stance = Idle; result = cond blocked barred done }

-- the guard afterwards: only a try changes the result
abbrev pub left_by : Effect → Bool → Guard → Guard
left_by Arms blocked g = record { stance = Armed; result = g.result }
left_by Tries blocked g = tried blocked
left_by Rests blocked g = record { stance = Idle; result = g.result }
