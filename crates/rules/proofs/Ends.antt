-- While a mailbox is held, its two ends are told what follows from the mailbox and their own commands alone.
use Rattle.std.proofs.Common.{◌≡◌, ℕ, ◌<◌, Bool, true, false, cond, not, ◌&&◌, eqb, List, [], ◌∷◌, is_ok, sym, refl, ap, ◌∙◌, subst, arith}
use Rattle.std.proofs.lemmas.Bool.{and_parts, cond-false, eqb-true, false≢true, true≢false}
use Rattle.std.proofs.lemmas.Bool.Decides.{nat_tests}
use Rattle.bank.specs.Queues.{grown, shrunk, wiped}
use Rattle.rules.specs.declared.command.Command.{Command}
use Rattle.rules.specs.declared.command.Command.TheVariants.{Delegate, Yield, Send, Receive, Status, GuardWrite, GuardRead, Arbiter, Stream, Pull, Tick}
use Rattle.rules.specs.declared.description.Description.{Description}
use Rattle.rules.specs.Checks.{accepted, checks}
use Rattle.rules.specs.Description.{fixed}
use Rattle.rules.specs.Ends.{Line, concerning, concerns, lines}
use Rattle.rules.specs.Guard.{effect, tries}
use Rattle.rules.specs.Laws.{Runs}
use Rattle.rules.specs.Ledger.{Event, Ledger, fed, holders}
use Rattle.rules.specs.Ownership.{blocked, blocks}
use Rattle.rules.specs.Register.{managers}
use Rattle.rules.specs.State.{State, guard, owner, queue, register}
use Rattle.rules.specs.Transition.{answer, next, resets, value}
use Rattle.rules.proofs.Facts.{delegates, some_here, told_accepted}
use Rattle.rules.proofs.Ledgers.{InStep, fed_in_step, holder_is}
use Rattle.rules.proofs.Moves.{moved, next_seen, next_sized}
use Rattle.rules.proofs.Views.{Mail, mail, Sized, accesses, given, queueing}

-- Two racks in which mailbox k is the same answer a command of its ends alike, and leave the mailbox the same.
module _ (d : Description) (s u : State) (k : ℕ) (same : mail s k ≡ mail u k) where
  abbrev Alike : Command → Type 0
  Alike c = (answer d s c ≡ answer d u c) × ((v : Mail) → moved d (resets d s) k c v ≡ moved d (resets d u) k c v)

  registers : register s k ≡ register u k
  registers = ap (λ (v : Mail). v.register) same

  queues : queue s k ≡ queue u k
  queues = ap (λ (v : Mail). v.queue) same

  named : (c : ℕ → Command) (j : ℕ) (end : Bool) → (eqb j k && end) ≡ true → Alike (c k) → Alike (c j)
  named c j end h p = subst (λ (i : ℕ). Alike (c i)) (sym (eqb-true j k (and_parts (eqb j k) end h).0)) p

  told_alike : (x : ℕ) (c : Command) → concerns d k x c ≡ true → Alike c
  told_alike x (Delegate c j to l t) h = named (λ i. Delegate c i to l t) j _ h ((let p = registers in let q = queues in cc), λ v. refl)
  told_alike x (Yield c j) h = named (λ i. Yield c i) j _ h ((let p = registers in let q = queues in cc), λ v. refl)
  told_alike x (Send c j w) h = named (λ i. Send c i w) j _ h ((let p = registers in let q = queues in cc), λ v. refl)
  told_alike x (Receive c j) h = named (λ i. Receive c i) j _ h ((let p = registers in let q = queues in cc), λ v. refl)
  told_alike x (Status c j) h = named (λ i. Status c i) j _ h ((let p = registers in let q = queues in cc), λ v. refl)
  told_alike x (GuardWrite c y v) h = absurd (false≢true h)
  told_alike x (GuardRead c y) h = absurd (false≢true h)
  told_alike x (Arbiter c v) h = absurd (false≢true h)
  told_alike x (Stream w) h = absurd (false≢true h)
  told_alike x (Pull c) h = absurd (false≢true h)
  told_alike x Tick h = (refl, λ v. refl)

  pub left_alike : Sized s → Sized u → k < d.mailboxes → (x : ℕ) (c : Command) → concerns d k x c ≡ true → (answer d s c ≡ answer d u c) × (mail (next d s c) k ≡ mail (next d u c) k)
  left_alike z y l x c h =
      let p = told_alike x c h in
      let ok : accepted d s c ≡ accepted d u c = sym (told_accepted (checks d s c) (value d s c)) ∙ ap is_ok p.0 ∙ told_accepted (checks d u c) (value d u c) in
      (p.0, next_seen d s z k l c ∙ (λ i. cond (ok i) (p.1 (same i) i) (same i)) ∙ sym (next_seen d u y k l c))

-- Another's command leaves a held mailbox as it is. It cannot name the mailbox: whom the rules let act on it is one of its
-- ends, or the manager, who does not own it.
module _ (d : Description) (s : State) (k x : ℕ) (held : owner s k ≡ x) where
  not_delegated : (c j to l t : ℕ) → (x ≡ 0 → ⊥) → accepted d s (Delegate c j to l t) ≡ true → eqb k j ≡ false
  not_delegated c j to l t n a = let f = (delegates d s c j to l t a).free in grind (arith, nat_tests)

  -- the reset of a held mailbox's fixed domain is blocked
  not_reset : k < d.mailboxes → (x ≡ 0 → ⊥) → (y v : ℕ) → (resets d s y v && eqb (fixed d k) y) ≡ false
  not_reset l n y v =
      stopped (tries (effect (guard s y).stance v)) (blocked d (owner s) y) (eqb (fixed d k) y)
      (λ f. some_here d.mailboxes (blocks d (owner s) y) k l (grind (arith, nat_tests)))
    where
      stopped : (try barred here : Bool) → (here ≡ true → barred ≡ true) → ((try && not barred) && here) ≡ false
      stopped try barred here f = grind arith

  unmoved : k < d.mailboxes → (x ≡ 0 → ⊥) → (c : Command) → concerns d k x c ≡ false → accepted d s c ≡ true → moved d (resets d s) k c (mail s k) ≡ mail s k
  unmoved l n (Delegate c j to m t) h a = cond-false (eqb k j) (given (record { owner = to; limit = m; time = t }) (mail s k)) (mail s k) (not_delegated c j to m t n a)
  unmoved l n (Yield c j) h a = cond-false (eqb k j) (given managers (mail s k)) (mail s k) (grind (arith, nat_tests))
  unmoved l n (Send c j w) h a = cond-false (eqb k j) (accesses c (grown w) (mail s k)) (mail s k) (grind (arith, nat_tests))
  unmoved l n (Receive c j) h a = cond-false (eqb k j) (accesses c shrunk (mail s k)) (mail s k) (grind (arith, nat_tests))
  unmoved l n (Status c j) h a = refl
  unmoved l n (GuardWrite c y v) h a = cond-false (resets d s y v && eqb (fixed d k) y) (queueing wiped (mail s k)) (mail s k) (not_reset l n y v)
  unmoved l n (GuardRead c y) h a = refl
  unmoved l n (Arbiter c v) h a = refl
  unmoved l n (Stream w) h a = refl
  unmoved l n (Pull c) h a = refl
  unmoved l n Tick h a = absurd (true≢false h)

  pub unaffected : Sized s → k < d.mailboxes → (x ≡ 0 → ⊥) → (c : Command) → concerns d k x c ≡ false → mail (next d s c) k ≡ mail s k
  unaffected z l n c h = next_seen d s z k l c ∙ go (accepted d s c) refl
    where
      go : (t : Bool) → accepted d s c ≡ t → cond t (moved d (resets d s) k c (mail s k)) (mail s k) ≡ mail s k
      go true a = unmoved l n c h a
      go false a = refl

-- The lines of a holding, from the commands that concern it alone.
module _ (d : Description) (k x : ℕ) (l : k < d.mailboxes) (someone : x ≡ 0 → ⊥) where
  abbrev own_lines : State → List Command → List Line
  own_lines u [] = []
  own_lines u (c ∷ cs) =
      let lasts = eqb (owner (next d u c) k) x in
      record { command = c; answer = answer d u c; lasts = lasts } ∷ cond lasts (own_lines (next d u c) cs) []

  -- the run of es from s, beside a rack u in which the mailbox is the same
  abbrev Goes : List Event → Type 0
  Goes es = (s t u : State) (b : Ledger) → InStep d s b → Sized u → mail s k ≡ mail u k → owner s k ≡ x → Runs d s es t → lines d k x b es ≡ own_lines u (concerning d k x es)

  lines_go : (es : List Event) → Goes es
  lines_go [] = λ s t u b r y m w q. refl
  lines_go (e ∷ es) = λ s t u b r y m w q. go (lines_go es) s t u b r y m w q (concerns d k x e.command) refl
    where
      more : Goes es → (s t u : State) (b : Ledger) → InStep d s b → Sized u → mail s k ≡ mail u k → Runs d s es t → (f : Bool) → eqb (owner s k) x ≡ f
          → cond f (lines d k x b es) [] ≡ cond f (own_lines u (concerning d k x es)) []
      more ih s t u b r y m q true h = ih s t u b r y m (eqb-true (owner s k) x h) q
      more ih s t u b r y m q false h = refl

      go : Goes es → (s t u : State) (b : Ledger) → InStep d s b → Sized u → mail s k ≡ mail u k → owner s k ≡ x → Runs d s (e ∷ es) t
          → (f : Bool) → concerns d k x e.command ≡ f
          → cond f (record { command = e.command; answer = e.answer; lasts = eqb (holders (fed d b e) k) x } ∷ cond (eqb (holders (fed d b e) k) x) (lines d k x (fed d b e) es) []) (lines d k x (fed d b e) es)
          ≡ own_lines u (cond f (e.command ∷ concerning d k x es) (concerning d k x es))
      go ih s t u b r y m w q true h =
          let c = e.command in
          let p = left_alike d s u k m r.sized y l x c h in
          let r' = fed_in_step d s b r e q.0 in
          let holder : eqb (holders (fed d b e) k) x ≡ eqb (owner (next d s c) k) x = ap (λ (o : ℕ). eqb o x) (sym (holder_is d (next d s c) (fed d b e) r' k l)) in
          let owner' : eqb (owner (next d s c) k) x ≡ eqb (owner (next d u c) k) x = ap (λ (v : Mail). eqb v.register.owner x) p.1 in
          let rest = ap (λ (f : Bool). cond f (lines d k x (fed d b e) es) []) holder
          ∙ more ih (next d s c) t (next d u c) (fed d b e) r' (next_sized d u y c) p.1 q.1 (eqb (owner (next d s c) k) x) refl
          ∙ ap (λ (f : Bool). cond f (own_lines (next d u c) (concerning d k x es)) []) owner' in
          λ i. record { command = c; answer = (q.0 ∙ p.0) i; lasts = (holder ∙ owner') i } ∷ rest i
      go ih s t u b r y m w q false h =
          let c = e.command in
          let f = unaffected d s k x w r.sized l someone c h in
          ih (next d s c) t u (fed d b e) (fed_in_step d s b r e q.0) y (f ∙ m) (ap (λ (v : Mail). v.register.owner) f ∙ w) q.1

  -- two runs from racks in which the mailbox is the same, with the same commands of its ends
  pub lines_same : (es fs : List Event) (s t s' t' : State) (b b' : Ledger) → InStep d s b → InStep d s' b' → mail s k ≡ mail s' k → owner s k ≡ x
      → Runs d s es t → Runs d s' fs t' → concerning d k x es ≡ concerning d k x fs → lines d k x b es ≡ lines d k x b' fs
  lines_same es fs s t s' t' b b' r r' m w q q' h =
      lines_go es s t s' b r r'.sized m w q
      ∙ ap (own_lines s') h
      ∙ sym (lines_go fs s' t' s' b' r' r'.sized refl (ap (λ (v : Mail). v.register.owner) (sym m) ∙ w) q')
