-- Eight places for the wirings of mailboxes, and what stands where there is no mailbox.
use Rattle.std.specs.Prelude.{◌-◌, List, ◌++◌, length, replicate}
use Rattle.rules.specs.declared.wiring.Direction.TheVariants.{FixedSends}
use Rattle.rules.specs.declared.wiring.Wiring.{Wiring}

-- what stands at a number that no mailbox has
abbrev pub no_wiring : Wiring
no_wiring = record { fixed = 0; direction = FixedSends; wired = 0 }

-- eight places, the first of them for the mailboxes that there are
abbrev pub padded : List Wiring → List Wiring
padded ws = ws ++ replicate (8 - length ws) no_wiring
