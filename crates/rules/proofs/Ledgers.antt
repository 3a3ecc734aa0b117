-- A rack and the ledger of its run stay in step, whatever command comes.
use Rattle.std.proofs.Common.{◌≡◌, ℕ, ◌<◌, Bool, true, false, cond, not, ◌&&◌, eqb, List, [], ◌∷◌, ◌++◌, get_or, set, is_ok, sym, refl, ap, ◌∙◌, subst, arith}
use Rattle.std.proofs.lemmas.List.{get_or-set_same, get_or-set_other}
use Rattle.std.proofs.lemmas.Bool.{and_parts, and_right, cond_both, eqb-true, eqb-false, eq-eqb}
use Rattle.std.proofs.Math.Bool.{and-true}
use Rattle.fifo.specs.Row.{rest}
use Rattle.bank.specs.Queues.{grown, shrunk}
use Rattle.rules.specs.declared.command.Command.{Command}
use Rattle.rules.specs.declared.command.Command.TheVariants.{Delegate, Yield, Send, Receive, Status, GuardWrite, GuardRead, Arbiter, Stream, Pull, Tick}
use Rattle.rules.specs.declared.description.Description.{Description}
use Rattle.rules.specs.declared.guard.Guard.{Guard}
use Rattle.rules.specs.Checks.{accepted, checks}
use Rattle.rules.specs.Description.{fixed}
use Rattle.rules.specs.Guard.{effect, left_by, tries}
use Rattle.rules.specs.Laws.{Runs}
use Rattle.rules.specs.Ledger.{Account, Event, Ledger, counted, fed, fed_all, granted, guarded, holders, judged, listing, noted, posted, vacated}
use Rattle.rules.specs.Ownership.{blocked, blocks}
use Rattle.rules.specs.Register.{managers}
use Rattle.rules.specs.State.{State, guard, no_guard, owner}
use Rattle.rules.specs.Transition.{act, answer, next, resets, value}
use Rattle.rules.proofs.Accounts.{Agrees, closing, given_agrees, freed_agrees, access_agrees, tick_agrees, same_agrees, reset_agrees}
use Rattle.rules.proofs.Facts.{some_same, told_accepted, delegates, yields, writes_below}
use Rattle.rules.proofs.Moves.{moved, act_seen, act_sized}
use Rattle.rules.proofs.Resets.{after, guarded_beside}
use Rattle.rules.proofs.Views.{Mail, mail, Sized, accesses, given, access_beside, aged_beside}

pub record InStep (d : Description) (s : State) (b : Ledger) : Type 0 where
  pub sized : Sized s
  pub mails : (k : ℕ) → k < d.mailboxes → Agrees (mail s k) (b.account k)
  pub guards : (x : ℕ) → x < 16 → guard s x ≡ b.guard x

-- an answer that the rules give says whether they accept the command
pub says : (d : Description) (s : State) (e : Event) → e.answer ≡ answer d s e.command → is_ok e.answer ≡ accepted d s e.command
says d s e h = ap is_ok h ∙ told_accepted (checks d s e.command) (value d s e.command)

module _ (d : Description) (s : State) (b : Ledger) (r : InStep d s b) where
  pub holder_is : (k : ℕ) → k < d.mailboxes → owner s k ≡ holders b k
  holder_is k l = (r.mails k l).tallies.owner

  blocked_same : (x : ℕ) → blocked d (owner s) x ≡ blocked d (holders b) x
  blocked_same x = some_same d.mailboxes (blocks d (owner s) x) (blocks d (holders b) x) (λ k l. let e = holder_is k l in cc)

  -- at one mailbox
  module _ (k : ℕ) (l : k < d.mailboxes) where
    -- a command that names mailbox j
    at_agrees : (t : Bool) (w : Mail) (f : Account) → (t ≡ true → Agrees w (closing (holders b k) false (judged f)))
        → Agrees (cond t w (mail s k)) (closing (holders b k) false (judged (cond t f (b.account k))))
    at_agrees true w f h = h refl
    at_agrees false w f h = same_agrees (mail s k) (b.account k) (r.mails k l)

    yields_same : (c j : ℕ) → c ≡ owner s j → (eqb k j && eqb c (holders b k)) ≡ eqb k j
    yields_same c j p = go (eqb k j) refl
      where
        go : (t : Bool) → eqb k j ≡ t → (t && eqb c (holders b k)) ≡ t
        go true h = eq-eqb c (holders b k) (p ∙ ap (owner s) (sym (eqb-true k j h)) ∙ holder_is k l)
        go false h = refl

    reset_same : (x v : ℕ) → x < 16 → (resets d s x v && eqb (fixed d k) x) ≡ (guarded d b (GuardWrite 0 x v) (fixed d k)).1
    reset_same x v low = go (eqb (fixed d k) x) refl
      where
        go : (t : Bool) → eqb (fixed d k) x ≡ t → (resets d s x v && t) ≡ (t && tries (effect (b.guard (fixed d k)).stance v) && not (blocked d (holders b) (fixed d k)))
        go true p =
            let q = eqb-true (fixed d k) x p in
            subst (λ (y : ℕ). (resets d s x v && true) ≡ (tries (effect (b.guard y).stance v) && not (blocked d (holders b) y))) (sym q)
            (and-true (resets d s x v) ∙ (λ i. tries (effect (r.guards x low i).stance v) && not (blocked_same x i)))
        go false p = and_right (resets d s x v) false refl

    pub moved_agrees : (c : Command) → accepted d s c ≡ true → Agrees (moved d (resets d s) k c (mail s k)) (posted d b c k)
    moved_agrees (Delegate c j to m t) a =
        let p = delegates d s c j to m t a in
        at_agrees (eqb k j) (given (record { owner = to; limit = m; time = t }) (mail s k)) (granted to m t (b.account k))
        (λ h.
        let free : holders b k ≡ 0 = sym (holder_is k l) ∙ ap (owner s) (eqb-true k j h) ∙ p.free in
        given_agrees (mail s k) (b.account k) (r.mails k l) to m t free p.someone p.limit_low p.limit_high p.time_low p.time_high)
    moved_agrees (Yield c j) a =
        let p = yields d s c j a in
        subst (λ (t : Bool). Agrees (cond t (given managers (mail s k)) (mail s k)) (posted d b (Yield c j) k)) (yields_same c j p.owner)
        (at_agrees (eqb k j && eqb c (holders b k)) (given managers (mail s k)) (vacated (b.account k))
        (λ h. freed_agrees (mail s k) (b.account k) (r.mails k l) (λ z. p.someone (eqb-true c (holders b k) (and_parts (eqb k j) (eqb c (holders b k)) h).1 ∙ z))))
    moved_agrees (Send c j w) a =
        at_agrees (eqb k j) (accesses c (grown w) (mail s k)) (counted c (listing ((b.account k).words ++ w ∷ []) (b.account k)))
        (λ h. access_agrees (mail s k) (b.account k) (r.mails k l) c (grown w) ((b.account k).words ++ w ∷ []) (ap (λ (ws : List ℕ). ws ++ w ∷ []) (r.mails k l).tallies.words))
    moved_agrees (Receive c j) a =
        at_agrees (eqb k j) (accesses c shrunk (mail s k)) (counted c (listing (rest (b.account k).words) (b.account k)))
        (λ h. access_agrees (mail s k) (b.account k) (r.mails k l) c shrunk (rest (b.account k).words) (ap rest (r.mails k l).tallies.words))
    moved_agrees (Status c j) a = same_agrees (mail s k) (b.account k) (r.mails k l)
    moved_agrees (GuardWrite c x v) a =
        let few = d.few in
        let low = writes_below d s c x v a in
        reset_agrees (mail s k) (b.account k) (r.mails k l) (resets d s x v && eqb (fixed d k) x) (guarded d b (GuardWrite c x v) (fixed d k)).1 (reset_same x v (omega arith))
    moved_agrees (GuardRead c x) a = same_agrees (mail s k) (b.account k) (r.mails k l)
    moved_agrees (Arbiter c v) a = same_agrees (mail s k) (b.account k) (r.mails k l)
    moved_agrees (Stream w) a = same_agrees (mail s k) (b.account k) (r.mails k l)
    moved_agrees (Pull c) a = same_agrees (mail s k) (b.account k) (r.mails k l)
    moved_agrees Tick a = tick_agrees (mail s k) (b.account k) (r.mails k l)

  -- at one guard
  module _ (x : ℕ) (low : x < 16) where
    written_same : (y v : ℕ) → y < 16 → guard (act d s (GuardWrite 0 y v)) x ≡ (guarded d b (GuardWrite 0 y v) x).0
    written_same y v h =
        let n = r.sized.sixteen in
        ap (λ (gs : List Guard). get_or gs x no_guard) (guarded_beside d s y v r.sized).guards
        ∙ cond_both (eqb x y) (left_by (effect (b.guard x).stance v) (blocked d (holders b) x) (b.guard x)) (b.guard x) (λ g. get_or (set s.guards y (after d s y v)) x no_guard ≡ g)
        (λ p.
        let q = eqb-true x y p in
        subst (λ (z : ℕ). get_or (set s.guards y (after d s y v)) z no_guard ≡ left_by (effect (b.guard z).stance v) (blocked d (holders b) z) (b.guard z)) (sym q)
        (get_or-set_same s.guards y (after d s y v) no_guard (omega arith) ∙ (λ i. left_by (effect (r.guards y h i).stance v) (blocked_same y i) (r.guards y h i))))
        (λ p. get_or-set_other s.guards y x (after d s y v) no_guard (eqb-false x y p) ∙ r.guards x low)

    guard_same : (c : Command) → accepted d s c ≡ true → guard (act d s c) x ≡ (guarded d b c x).0
    guard_same (Delegate c j to m t) a = r.guards x low
    guard_same (Yield c j) a = r.guards x low
    guard_same (Send c j w) a = ap (λ (gs : List Guard). get_or gs x no_guard) (access_beside c (grown w) s j).guards ∙ r.guards x low
    guard_same (Receive c j) a = ap (λ (gs : List Guard). get_or gs x no_guard) (access_beside c shrunk s j).guards ∙ r.guards x low
    guard_same (Status c j) a = r.guards x low
    guard_same (GuardWrite c y v) a = let few = d.few in let h = writes_below d s c y v a in written_same y v (omega arith)
    guard_same (GuardRead c y) a = r.guards x low
    guard_same (Arbiter c v) a = r.guards x low
    guard_same (Stream w) a = r.guards x low
    guard_same (Pull c) a = r.guards x low
    guard_same Tick a = ap (λ (gs : List Guard). get_or gs x no_guard) (aged_beside d.mailboxes s).guards ∙ r.guards x low

  -- the whole rack, after a command that is accepted
  pub act_in_step : (c : Command) → accepted d s c ≡ true → InStep d (act d s c) (noted d b c)
  act_in_step c a = record {
    sized = act_sized d s r.sized c;
    mails = λ k l. subst (λ (v : Mail). Agrees v (posted d b c k)) (sym (act_seen d s r.sized k l c)) (moved_agrees k l c a);
    guards = λ x l. guard_same x l c a;
  }

  -- after a command that is accepted or refused
  pub next_in_step : (c : Command) → InStep d (next d s c) (cond (accepted d s c) (noted d b c) b)
  next_in_step c = go (accepted d s c) refl
    where
      go : (t : Bool) → accepted d s c ≡ t → InStep d (cond t (act d s c) s) (cond t (noted d b c) b)
      go true a = act_in_step c a
      go false a = r

  -- and after an event
  pub fed_in_step : (e : Event) → e.answer ≡ answer d s e.command → InStep d (next d s e.command) (fed d b e)
  fed_in_step e h = subst (λ (t : Bool). InStep d (next d s e.command) (cond t (noted d b e.command) b)) (sym (says d s e h)) (next_in_step e.command)

pub runs_in_step : (d : Description) (s : State) (b : Ledger) → InStep d s b → (es : List Event) (t : State) → Runs d s es t → InStep d t (fed_all d b es)
runs_in_step d s b r [] t q = subst (λ (u : State). InStep d u b) q r
runs_in_step d s b r (e ∷ es) t q = runs_in_step d (next d s e.command) (fed d b e) (fed_in_step d s b r e q.0) es t q.1
