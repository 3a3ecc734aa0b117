-- Two questions about who owns which mailbox; `owners k` is the owner of mailbox k.
use Rattle.std.specs.Prelude.{ℕ, zero, suc, Bool, false, not, ◌&&◌, ◌||◌, ◌==◌}
use Rattle.rules.specs.declared.description.Description.{Description}
use Rattle.rules.specs.Description.{device, fixed, untrusted}

-- a number below n passes the test
abbrev pub some_below : ℕ → (ℕ → Bool) → Bool
some_below zero test = false
some_below (suc n) test = test n || some_below n test

-- A domain's reset is blocked while it owns a mailbox, or is the fixed domain of one whose owner is not the manager.
abbrev pub blocks : Description → (ℕ → ℕ) → ℕ → ℕ → Bool
blocks d owners x k = owners k == x || (fixed d k == x && not (owners k == 0))

abbrev pub blocked : Description → (ℕ → ℕ) → ℕ → Bool
blocked d owners x = some_below d.mailboxes (blocks d owners x)

-- The untrusted domain is entitled to streamed words while it owns a mailbox fixed at the device domain.
abbrev pub entitles : Description → (ℕ → ℕ) → ℕ → Bool
entitles d owners k = owners k == untrusted d && fixed d k == device d

abbrev pub entitled : Description → (ℕ → ℕ) → Bool
entitled d owners = some_below d.mailboxes (entitles d owners)
