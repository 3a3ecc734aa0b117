-- One mailbox and its account in the ledger: what agrees before a command agrees after it.
use Rattle.std.proofs.Common.{◌≡◌, ℕ, suc, ◌≤◌, Bool, true, false, cond, not, ◌||◌, eqb, List, [], sym, refl, ◌∙◌, subst, ⊎_elim, arith}
use Rattle.std.proofs.lemmas.Bool.{cases_eq, or_parts, or_right, true≢false, false≢true}
use Rattle.std.proofs.lemmas.Bool.Decides.{nat_tests}
use Rattle.bank.specs.Queues.{Queue, wiped}
use Rattle.rules.specs.Laws.{Stands}
use Rattle.rules.specs.Ledger.{Account, counted, due, granted, judged, left, listing, older, reached, vacated}
use Rattle.rules.specs.Register.{managers}
use Rattle.rules.proofs.Views.{Mail, accesses, ages, closed_if, expired, given, pays, queueing, spent, ticks}

-- The register reads what the account says, and the same words are under way.
pub record Tallies (v : Mail) (e : Account) : Type 0 where
  pub owner : v.register.owner ≡ e.holder
  pub limit : v.register.limit ≡ left e.holder e.limit e.accesses
  pub time : v.register.time ≡ left e.holder e.time e.ticks
  pub words : v.queue.words ≡ e.words
  pub limit_fits : e.limit ≤ 4095
  pub time_fits : e.time ≤ 4095

-- Besides, no count of a held mailbox has reached its figure.
pub record Agrees (v : Mail) (e : Account) : Type 0 where
  pub tallies : Tallies v e
  pub standing : (e.holder ≡ 0 → ⊥) → due e ≡ false

-- A figure that a register shows, limit or time, where the holder is h, and the grant's figure with its count is given: it
-- stands while the count has not reached it, it is 0 exactly where the count has, and without a holder it is unlimited.
module _ (h figure count shown : ℕ) (reads : shown ≡ left h figure count) where
  figure_stands : figure ≤ 4095 → ((h ≡ 0 → ⊥) → reached count figure ≡ false) → Stands shown
  figure_stands f n = grind (arith, nat_tests)

  spent_reached : figure ≤ 4095 → (h ≡ 0 → ⊥) → eqb shown 0 ≡ reached count figure
  spent_reached f n = grind (arith, nat_tests)

  free_unspent : h ≡ 0 → eqb shown 0 ≡ false
  free_unspent z = grind (arith, nat_tests)

-- So a limit or time of 0 never stands, and none is above 4095.
module _ (v : Mail) (e : Account) (a : Agrees v e) where
  neither_due : (e.holder ≡ 0 → ⊥) → (reached e.accesses e.limit ≡ false) × (reached e.ticks e.time ≡ false)
  neither_due n = or_parts (reached e.accesses e.limit) (reached e.ticks e.time) (a.standing n)

  pub limit_stands : Stands v.register.limit
  limit_stands = let b = a.tallies in figure_stands e.holder e.limit e.accesses v.register.limit b.limit b.limit_fits (λ n. (neither_due n).0)

  pub time_stands : Stands v.register.time
  time_stands = let b = a.tallies in figure_stands e.holder e.time e.ticks v.register.time b.time b.time_fits (λ n. (neither_due n).1)

-- an account after a command, where the holder was h; its words are wiped where the holder has changed, and by a reset
abbrev pub closing : ℕ → Bool → Account → Account
closing h reset e = cond (not (eqb e.holder h) || reset) (listing [] e) e

-- Where a command ends the holding exactly if a count has reached its figure, mailbox and account agree after it.
module _ (h : ℕ) (v : Mail) (e : Account) (a : Tallies v e) (same : e.holder ≡ h) where
  ended : (e.holder ≡ 0 → ⊥) → Agrees (given managers v) (closing h false (vacated e))
  ended n = grind (arith, nat_tests)

  goes_on : (due e ≡ false) → Agrees v (closing h false e)
  goes_on d = grind (arith, nat_tests)

  vacant : e.holder ≡ 0 → (t : Bool) → Agrees v (closing h false (cond t (vacated e) e))
  vacant z t = grind (arith, nat_tests)

  pub judged_agrees : (over : Bool) → ((e.holder ≡ 0 → ⊥) → over ≡ due e) → (e.holder ≡ 0 → over ≡ false) → Agrees (closed_if over v) (closing h false (judged e))
  judged_agrees over held free = ⊎_elim (λ z. at_none z over (free z)) (λ n. at_some n over (due e) refl (held n)) (cases_eq e.holder 0)
    where
      at_none : e.holder ≡ 0 → (t : Bool) → t ≡ false → Agrees (closed_if t v) (closing h false (judged e))
      at_none z true p = absurd (true≢false p)
      at_none z false p = vacant z (due e)

      at_some : (e.holder ≡ 0 → ⊥) → (t u : Bool) → due e ≡ u → t ≡ u → Agrees (closed_if t v) (closing h false (cond u (vacated e) e))
      at_some n true true p q = ended n
      at_some n true false p q = absurd (true≢false q)
      at_some n false true p q = absurd (false≢true q)
      at_some n false false p q = goes_on p

-- counting
paid_tallies : (c : ℕ) (v : Mail) (e : Account) → Tallies v e → Tallies (pays c v) (counted c e)
paid_tallies c v e a = grind (arith, nat_tests)

aged_tallies : (v : Mail) (e : Account) → Tallies v e → Tallies (ages v) (older e)
aged_tallies v e a = grind (arith, nat_tests)

-- One lemma for each thing that a command can do to a mailbox.
module _ (v : Mail) (e : Account) (a : Agrees v e) where
  pub given_agrees : (to l t : ℕ) → e.holder ≡ 0 → (to ≡ 0 → ⊥) → 1 ≤ l → l ≤ 4095 → 1 ≤ t → t ≤ 4095
      → Agrees (given (record { owner = to; limit = l; time = t }) v) (closing e.holder false (judged (granted to l t e)))
  given_agrees to l t z n l1 l2 t1 t2 = grind (arith, nat_tests)

  pub freed_agrees : (e.holder ≡ 0 → ⊥) → Agrees (given managers v) (closing e.holder false (judged (vacated e)))
  freed_agrees n = go (due (vacated e))
    where
      go : (t : Bool) → Agrees (given managers v) (closing e.holder false (cond t (vacated (vacated e)) (vacated e)))
      go true = let b = a.tallies in grind (arith, nat_tests)
      go false = let b = a.tallies in grind (arith, nat_tests)

  listed : (f : Queue → Queue) (ws : List ℕ) → (f v.queue).words ≡ ws → Tallies (queueing f v) (listing ws e)
  listed f ws h =
      let b = a.tallies in
      record { owner = b.owner; limit = b.limit; time = b.time; words = h; limit_fits = b.limit_fits; time_fits = b.time_fits }

  pub access_agrees : (c : ℕ) (f : Queue → Queue) (ws : List ℕ) → (f v.queue).words ≡ ws → Agrees (accesses c f v) (closing e.holder false (judged (counted c (listing ws e))))
  access_agrees c f ws h =
      let w = pays c (queueing f v) in
      let u = counted c (listing ws e) in
      let b = paid_tallies c (queueing f v) (listing ws e) (listed f ws h) in
      judged_agrees e.holder w u b refl (spent w)
      (λ n. let p = (neither_due v e a n).1 in let q = spent_reached u.holder u.limit u.accesses w.register.limit b.limit b.limit_fits n in grind arith)
      (free_unspent u.holder u.limit u.accesses w.register.limit b.limit)

  pub tick_agrees : Agrees (ticks v) (closing e.holder false (judged (older e)))
  tick_agrees =
      let b = aged_tallies v e a.tallies in
      judged_agrees e.holder (ages v) (older e) b refl (expired (ages v))
      (λ n. let p = (neither_due v e a n).0 in let q = spent_reached e.holder e.time (suc e.ticks) (ages v).register.time b.time b.time_fits n in grind arith)
      (free_unspent e.holder e.time (suc e.ticks) (ages v).register.time b.time)

  pub same_agrees : Agrees v (closing e.holder false (judged e))
  same_agrees = judged_agrees e.holder v e a.tallies refl false (λ n. sym (a.standing n)) (λ z. refl)

  still : Agrees v (judged e)
  still = go (due e) refl
    where
      go : (t : Bool) → due e ≡ t → Agrees v (cond t (vacated e) e)
      go true p = let b = a.tallies in let z : (e.holder ≡ 0 → ⊥) → ⊥ = λ n. true≢false (sym p ∙ a.standing n) in grind (arith, nat_tests)
      go false p = a

  emptied : (x : Account) → Agrees v x → Agrees (queueing wiped v) (listing [] x)
  emptied x b =
      let t = b.tallies in
      record { tallies = record { owner = t.owner; limit = t.limit; time = t.time; words = refl; limit_fits = t.limit_fits; time_fits = t.time_fits }; standing = b.standing }

  pub reset_agrees : (t u : Bool) → t ≡ u → Agrees (cond t (queueing wiped v) v) (closing e.holder u (judged e))
  reset_agrees true true p =
      let x = judged e in
      let changed = not (eqb x.holder e.holder) in
      subst (λ (b : Bool). Agrees (queueing wiped v) (cond b (listing [] x) x)) (sym (or_right changed true refl)) (emptied x still)
  reset_agrees true false p = absurd (true≢false p)
  reset_agrees false true p = absurd (false≢true p)
  reset_agrees false false p = same_agrees
