-- What follows from a command's being accepted, and from a test over all mailboxes.
use Rattle.std.proofs.Common.{◌≡◌, ℕ, zero, suc, ◌<◌, ◌≤◌, Bool, true, false, ◌||◌, eqb, List, [], ◌∷◌, is_ok, Ok, sym, refl, arith}
use Rattle.std.proofs.lemmas.Bool.{true≢false}
use Rattle.std.proofs.lemmas.Bool.Decides.{nat_tests}
use Rattle.bank.specs.Queues.{empty}
use Rattle.rules.specs.declared.command.Command.TheVariants.{Delegate, Yield, Receive, GuardWrite, Arbiter}
use Rattle.rules.specs.declared.description.Description.{Description}
use Rattle.rules.specs.Checks.{Check, accepted, first_met, none_met}
use Rattle.rules.specs.Description.{is_wired}
use Rattle.rules.specs.Ownership.{entitled, some_below}
use Rattle.rules.specs.Route.{dma}
use Rattle.rules.specs.State.{State, owner, queue}

pub some_same : (n : ℕ) (p q : ℕ → Bool) → ((k : ℕ) → k < n → p k ≡ q k) → some_below n p ≡ some_below n q
some_same zero p q h = refl
some_same (suc n) p q h = let e = h n (omega arith) in let r = some_same n p q (λ k l. h k (omega arith)) in cc

pub some_here : (n : ℕ) (p : ℕ → Bool) (k : ℕ) → k < n → p k ≡ true → some_below n p ≡ true
some_here zero p k h e = absurd (omega arith)
some_here (suc n) p k h e = let more : k < n → some_below n p ≡ true = λ l. some_here n p k l e in grind arith

pub some_found : (n : ℕ) (p : ℕ → Bool) → some_below n p ≡ true → (k : ℕ) × (k < n) × (p k ≡ true)
some_found zero p h = absurd (true≢false (sym h))
some_found (suc n) p h = go (p n) refl h (some_found n p)
  where
    go : (b : Bool) → p n ≡ b → (b || some_below n p) ≡ true → (some_below n p ≡ true → (k : ℕ) × (k < n) × (p k ≡ true)) → (k : ℕ) × (k < suc n) × (p k ≡ true)
    go true e h f = (n, omega arith, e)
    go false e h f = let r = f h in let l = r.1 in (r.0, omega arith, r.2)

-- An answer tells whether its command was accepted, and then it is the value.
pub told_accepted : (cs : List Check) (v : ℕ) → is_ok (first_met cs v) ≡ none_met cs
told_accepted [] v = refl
told_accepted (c ∷ cs) v = let more = told_accepted cs v in grind arith

pub told_value : (cs : List Check) (v : ℕ) → none_met cs ≡ true → first_met cs v ≡ Ok v
told_value [] v h = refl
told_value (c ∷ cs) v h = let more = told_value cs v in grind arith

module _ (d : Description) (s : State) where
  pub record Delegates (c k to l t : ℕ) : Type 0 where
    pub manager : c ≡ 0
    pub below : k < d.mailboxes
    pub free : owner s k ≡ 0
    pub someone : to ≡ 0 → ⊥
    pub wired : is_wired d k to ≡ true
    pub limit_low : 1 ≤ l
    pub limit_high : l ≤ 4095
    pub time_low : 1 ≤ t
    pub time_high : t ≤ 4095

  pub delegates : (c k to l t : ℕ) → accepted d s (Delegate c k to l t) ≡ true → Delegates c k to l t
  delegates c k to l t h = grind (arith, nat_tests)

  pub record Yields (c k : ℕ) : Type 0 where
    pub below : k < d.mailboxes
    pub owner : c ≡ owner s k
    pub someone : c ≡ 0 → ⊥

  pub yields : (c k : ℕ) → accepted d s (Yield c k) ≡ true → Yields c k
  yields c k h = grind (arith, nat_tests)

  pub receives_some : (c k : ℕ) → accepted d s (Receive c k) ≡ true → empty (queue s k) ≡ false
  receives_some c k h = grind (arith, nat_tests)

  pub writes_below : (c x v : ℕ) → accepted d s (GuardWrite c x v) ≡ true → x < d.domains
  writes_below c x v h = grind (arith, nat_tests)

  pub selects_entitled : (c v : ℕ) → accepted d s (Arbiter c v) ≡ true → eqb v dma ≡ true → entitled d (owner s) ≡ true
  selects_entitled c v h e = grind (arith, nat_tests)
