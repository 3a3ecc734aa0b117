-- What follows from a description's being accepted.
use Rattle.std.proofs.Common.{◌≡◌, ℕ, ◌<◌, true, List, length, get_or, take, Some, None, Option, refl, ap, ◌∙◌, arith}
use Rattle.std.proofs.lemmas.List.{get_or-take, length-take-le}
use Rattle.std.proofs.lemmas.List.Folds.{list_all_at}
use Rattle.std.proofs.lemmas.Bool.Decides.{nat_tests}
use Rattle.rules.specs.declared.arbiter.Arbiter.{Arbiter}
use Rattle.rules.specs.declared.description.Description.{Description}
use Rattle.rules.specs.declared.wiring.Wiring.{Wiring}
use Rattle.rules.specs.Description.{device, device_of, fixed, untrusted, untrusted_of}
use Rattle.rules.specs.Wiring.{no_wiring}
use Rattle.rules.specs.Plan.{accepts, arbiter_ok, wiring_ok, wirings_ok}

-- the verdict on all is the verdict on each
each_ok : (n : ℕ) (ws : List Wiring) → wirings_ok n ws ≡ true → (k : ℕ) → k < length ws → wiring_ok n (get_or ws k no_wiring) ≡ true
each_ok n ws h k l = let f = list_all_at (wiring_ok n) ws k no_wiring l in grind arith

some_fixed : (n : ℕ) (w : Wiring) → wiring_ok n w ≡ true → w.fixed ≡ 0 → ⊥
some_fixed n w h = grind (arith, nat_tests)

verdicts : (n : ℕ) (arbiter : Option Arbiter) (ws : List Wiring) → accepts n arbiter ws ≡ true → (arbiter_ok n arbiter ≡ true) × (wirings_ok n ws ≡ true)
verdicts n arbiter ws h = grind (arith, nat_tests)

both_or_none : (n : ℕ) (arbiter : Option Arbiter) → arbiter_ok n arbiter ≡ true → untrusted_of arbiter ≡ 0 → device_of arbiter ≡ 0
both_or_none n None h e = refl
both_or_none n (Some a) h e = grind (arith, nat_tests)

module _ (d : Description) where
  -- the manager is no mailbox's fixed domain
  pub fixed_someone : (k : ℕ) → k < d.mailboxes → fixed d k ≡ 0 → ⊥
  fixed_someone k l e =
      let ws = take d.mailboxes d.wirings in
      let n : length ws ≡ d.mailboxes = length-take-le d.mailboxes d.wirings (omega (arith, d.eight, d.fewer)) in
      let ok = each_ok d.domains ws (verdicts d.domains d.arbiter ws d.accepted).1 k (omega arith) in
      some_fixed d.domains (get_or ws k no_wiring) ok (ap (λ (w : Wiring). w.fixed) (get_or-take d.mailboxes d.wirings k no_wiring l) ∙ e)

  -- there is no untrusted domain without a device domain
  pub device_with_untrusted : untrusted d ≡ 0 → device d ≡ 0
  device_with_untrusted e = both_or_none d.domains d.arbiter (verdicts d.domains d.arbiter (take d.mailboxes d.wirings) d.accepted).0 e
