-- Who can hold a mailbox, and how long the arbiter feeds the untrusted domain.
use Rattle.std.proofs.Common.{◌≡◌, ℕ, ◌<◌, Bool, true, false, cond, not, ◌&&◌, ◌||◌, eqb, ◌≢◌, ◌⊎◌, List, [], ◌∷◌, ◌++◌, get_or, is_ok, sym, refl, ap, ◌∙◌, subst, inl, inr, ⊎_elim}
use Rattle.std.proofs.lemmas.Bool.{and_parts, cond_both, eqb-true, or_cases, or_right, false≢true}
use Rattle.fifo.specs.Row.{rest}
use Rattle.bank.specs.Queues.{Queue, Sound, grown, shrunk}
use Rattle.rules.specs.declared.command.Command.{Command}
use Rattle.rules.specs.declared.command.Command.TheVariants.{Delegate, Yield, Send, Receive, Status, GuardWrite, GuardRead, Arbiter, Stream, Pull, Tick}
use Rattle.rules.specs.declared.description.Description.{Description}
use Rattle.rules.specs.declared.register.Register.{Register}
use Rattle.rules.specs.declared.route.Route.{Route}
use Rattle.rules.specs.declared.route.Route.TheVariants.{Own, Dma}
use Rattle.rules.specs.Checks.{accepted}
use Rattle.rules.specs.Description.{device, fixed, is_wired, untrusted}
use Rattle.rules.specs.Laws.{Runs}
use Rattle.rules.specs.Ledger.{Account, Event, Ledger, counted, due, entered, fed, fed_all, granted, judged, listing, noted, opened, vacated, wipes}
use Rattle.rules.specs.Ownership.{entitled, entitles}
use Rattle.rules.specs.Route.{dma}
use Rattle.rules.specs.State.{State, fresh, no_register, owner}
use Rattle.rules.specs.Transition.{act, answer, next, transferred}
use Rattle.rules.proofs.Descriptions.{device_with_untrusted, fixed_someone}
use Rattle.rules.proofs.Facts.{delegates, selects_entitled, some_found, some_here}
use Rattle.rules.proofs.Fresh.{fresh_in_step}
use Rattle.rules.proofs.Ledgers.{InStep, fed_in_step, says}
use Rattle.rules.proofs.Resets.{guarded_beside, own_not_dma}
use Rattle.rules.proofs.Views.{Mail, Sized, access_beside, aged_beside, transferred_there}

-- A holder is the manager, or wired to the mailbox.
abbrev Rightful : Description → ℕ → Account → Type 0
Rightful d k e = (eqb e.holder 0 || is_wired d k e.holder) ≡ true

module _ (d : Description) (s : State) (k : ℕ) (e : Account) (h : Rightful d k e) where
  pub entered_rightful : (c : Command) → accepted d s c ≡ true → Rightful d k (entered k c e)
  entered_rightful (Delegate c j to l t) a =
      cond_both (eqb k j) (granted to l t e) e (Rightful d k)
      (λ q. or_right (eqb to 0) (is_wired d k to) (subst (λ (i : ℕ). is_wired d i to ≡ true) (sym (eqb-true k j q)) (delegates d s c j to l t a).wired)) (λ q. h)
  entered_rightful (Yield c j) a = cond_both (eqb k j && eqb c e.holder) (vacated e) e (Rightful d k) (λ q. refl) (λ q. h)
  entered_rightful (Send c j w) a = cond_both (eqb k j) (counted c (listing (e.words ++ w ∷ []) e)) e (Rightful d k) (λ q. h) (λ q. h)
  entered_rightful (Receive c j) a = cond_both (eqb k j) (counted c (listing (rest e.words) e)) e (Rightful d k) (λ q. h) (λ q. h)
  entered_rightful (Status c j) a = h
  entered_rightful (GuardWrite c x v) a = h
  entered_rightful (GuardRead c x) a = h
  entered_rightful (Arbiter c v) a = h
  entered_rightful (Stream w) a = h
  entered_rightful (Pull c) a = h
  entered_rightful Tick a = h

judged_rightful : (d : Description) (k : ℕ) (e : Account) → Rightful d k e → Rightful d k (judged e)
judged_rightful d k e h = cond_both (due e) (vacated e) e (Rightful d k) (λ q. refl) (λ q. h)

-- The untrusted domain is fed only while it is entitled.
abbrev Fair : Description → State → Type 0
Fair d s = s.route ≡ Dma → entitled d (owner s) ≡ true

-- the arbiter falls back where the last holding has ended
falls : (was is : Bool) (r : Route) → (r ≡ Dma → was ≡ true) → cond (was && not is) Own r ≡ Dma → is ≡ true
falls true true r f h = refl
falls true false r f h = absurd (own_not_dma h)
falls false is r f h = absurd (false≢true (f h))

selected : (t : Bool) → cond t Dma Own ≡ Dma → t ≡ true
selected true h = refl
selected false h = absurd (own_not_dma h)

-- a delegation ends no holding: the mailbox was the manager's, who is not the untrusted domain
delegated_fair : (d : Description) (s : State) (j : ℕ) (r : Register) → owner s j ≡ 0 → entitled d (owner s) ≡ true → entitled d (owner (transferred s j r)) ≡ true
delegated_fair d s j r free h =
    let p = some_found d.mailboxes (entitles d (owner s)) h in
    let k = p.0 in
    let q = and_parts (eqb (owner s k) (untrusted d)) (eqb (fixed d k) (device d)) p.2 in
    let other : k ≢ j = λ e.
    fixed_someone d k p.1 (eqb-true (fixed d k) (device d) q.1 ∙ device_with_untrusted d (sym (eqb-true (owner s k) (untrusted d) q.0) ∙ ap (owner s) e ∙ free)) in
    some_here d.mailboxes (entitles d (owner (transferred s j r))) k p.1
    (ap (λ (v : Mail). eqb v.register.owner (untrusted d) && eqb (fixed d k) (device d)) (transferred_there s j k other r) ∙ p.2)

act_fair : (d : Description) (s : State) → Sized s → Fair d s → (c : Command) → accepted d s c ≡ true → Fair d (act d s c)
act_fair d s z f (Delegate c j to l t) a = λ h. delegated_fair d s j (record { owner = to; limit = l; time = t }) (delegates d s c j to l t a).free (f h)
act_fair d s z f (Yield c j) a = falls (entitled d (owner s)) _ s.route f
act_fair d s z f (Send c j w) a = falls (entitled d (owner s)) _ _ (λ h. f (sym (access_beside c (grown w) s j).route ∙ h))
act_fair d s z f (Receive c j) a = falls (entitled d (owner s)) _ _ (λ h. f (sym (access_beside c shrunk s j).route ∙ h))
act_fair d s z f (Status c j) a = f
act_fair d s z f (GuardWrite c x v) a =
    let w = guarded_beside d s x v z in
    λ h. ap (λ (rs : List Register). entitled d (λ k. (get_or rs k no_register).owner)) w.registers ∙ f (w.route h)
act_fair d s z f (GuardRead c x) a = f
act_fair d s z f (Arbiter c v) a = λ h. selects_entitled d s c v a (selected (eqb v dma) h)
act_fair d s z f (Stream w) a = f
act_fair d s z f (Pull c) a = f
act_fair d s z f Tick a = falls (entitled d (owner s)) _ _ (λ h. f (sym (aged_beside d.mailboxes s).route ∙ h))

-- Both, over a run.
pub record Proper (d : Description) (s : State) (b : Ledger) : Type 0 where
  pub in_step : InStep d s b
  pub rightful : (k : ℕ) → Rightful d k (b.account k)
  pub fair : Fair d s

module _ (d : Description) (s : State) (b : Ledger) (p : Proper d s b) where
  fed_proper : (e : Event) → e.answer ≡ answer d s e.command → Proper d (next d s e.command) (fed d b e)
  fed_proper e h = record {
    in_step = fed_in_step d s b p.in_step e h;
    rightful = λ k.
        cond_both (is_ok e.answer) (noted d b e.command) b (λ u. Rightful d k (u.account k))
        (λ y.
        let n = entered k e.command (b.account k) in
        let g = judged_rightful d k n (entered_rightful d s k (b.account k) (p.rightful k) e.command (sym (says d s e h) ∙ y)) in
        cond_both (wipes d b e.command k) (listing [] (judged n)) (judged n) (Rightful d k) (λ q. g) (λ q. g))
        (λ y. p.rightful k);
    fair = cond_both (accepted d s e.command) (act d s e.command) s (Fair d) (λ y. act_fair d s p.in_step.sized p.fair e.command y) (λ y. p.fair);
  }

pub runs_proper : (d : Description) (s : State) (b : Ledger) → Proper d s b → (es : List Event) (t : State) → Runs d s es t → Proper d t (fed_all d b es)
runs_proper d s b p [] t q = subst (λ (u : State). Proper d u b) q p
runs_proper d s b p (e ∷ es) t q = runs_proper d (next d s e.command) (fed d b e) (fed_proper d s b p e q.0) es t q.1

pub fresh_proper : (d : Description) (qs : List Queue) → Sound qs → Proper d (fresh qs) opened
fresh_proper d qs sound = record { in_step = fresh_in_step d qs sound; rightful = λ k. refl; fair = λ h. absurd (own_not_dma h) }

-- what that says of the state
module _ (d : Description) (s : State) (b : Ledger) (p : Proper d s b) where
  pub owner_wired : (k : ℕ) → k < d.mailboxes → (owner s k ≡ 0) ⊎ (is_wired d k (owner s k) ≡ true)
  owner_wired k l =
      let v = subst (λ (x : ℕ). (eqb x 0 || is_wired d k x) ≡ true) (sym (p.in_step.mails k l).tallies.owner) (p.rightful k) in
      ⊎_elim (λ z. inl (eqb-true (owner s k) 0 z)) (λ z. inr z) (or_cases (eqb (owner s k) 0) (is_wired d k (owner s k)) v)

  pub fed_entitled : s.route ≡ Dma → (k : ℕ) × (k < d.mailboxes) × (owner s k ≡ (untrusted d)) × (fixed d k ≡ (device d))
  fed_entitled h =
      let r = some_found d.mailboxes (entitles d (owner s)) (p.fair h) in
      let q = and_parts (eqb (owner s r.0) (untrusted d)) (eqb (fixed d r.0) (device d)) r.2 in
      (r.0, r.1, eqb-true (owner s r.0) (untrusted d) q.0, eqb-true (fixed d r.0) (device d) q.1)
