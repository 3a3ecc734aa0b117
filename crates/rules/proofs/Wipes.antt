-- Queues of which some are wiped: what is seen at each, and that there are as many as before.
use Rattle.std.proofs.Common.{◌≡◌, ℕ, zero, suc, ◌<◌, ◌≤◌, Bool, true, false, cond, ◌≢◌, List, length, sym, refl, ap, ◌∙◌, subst, ⊎_elim, arith}
use Rattle.std.proofs.lemmas.List.{length-set, get_or-set_same, get_or-set_other}
use Rattle.std.proofs.lemmas.Bool.{cases_eq}
use Rattle.bank.specs.Queues.{Queue, at, no_queue, wiped}
use Rattle.rules.specs.State.{wiped_if, wiped_where}

-- one queue, wiped or not
wiped_here : (t : Bool) (q : ℕ) (qs : List Queue) → q < length qs → at (wiped_if t q qs) q ≡ cond t (wiped (at qs q)) (at qs q)
wiped_here true q qs l = get_or-set_same qs q (wiped (at qs q)) no_queue l
wiped_here false q qs l = refl

pub wiped_there : (t : Bool) (q k : ℕ) (qs : List Queue) → k ≢ q → at (wiped_if t q qs) k ≡ at qs k
wiped_there true q k qs n = get_or-set_other qs q k (wiped (at qs q)) no_queue n
wiped_there false q k qs n = refl

pub length-wiped_if : (t : Bool) (q : ℕ) (qs : List Queue) → length (wiped_if t q qs) ≡ length qs
length-wiped_if true q qs = length-set qs q (wiped (at qs q))
length-wiped_if false q qs = refl

-- the queues that pass a test
module _ (test : ℕ → Bool) (qs : List Queue) where
  pub length-wiped_where : (n : ℕ) → length (wiped_where test n qs) ≡ length qs
  length-wiped_where zero = refl
  length-wiped_where (suc n) = length-wiped_if (test n) n (wiped_where test n qs) ∙ length-wiped_where n

  wiped_past : (n k : ℕ) → n ≤ k → at (wiped_where test n qs) k ≡ at qs k
  wiped_past zero k h = refl
  wiped_past (suc n) k h = wiped_there (test n) n k (wiped_where test n qs) (λ e. omega arith) ∙ wiped_past n k (omega arith)

  pub wiped_seen : (n : ℕ) → n ≤ length qs → (k : ℕ) → k < n → at (wiped_where test n qs) k ≡ cond (test k) (wiped (at qs k)) (at qs k)
  wiped_seen zero h k l = absurd (omega arith)
  wiped_seen (suc n) h k l =
      let us = wiped_where test n qs in
      let t = test n in
      ⊎_elim
      (λ e. subst (λ (i : ℕ). at (wiped_if t n us) i ≡ cond (test i) (wiped (at qs i)) (at qs i)) (sym e)
      (wiped_here t n us (omega (arith, length-wiped_where n)) ∙ ap (λ (u : Queue). cond t (wiped u) u) (wiped_past n n (omega arith))))
      (λ p. wiped_there t n k us p ∙ wiped_seen n (omega arith) k (omega arith))
      (cases_eq k n)
