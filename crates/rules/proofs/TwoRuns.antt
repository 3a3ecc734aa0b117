-- From equal delegations on, both ends of a mailbox see the same in two runs.
use Rattle.std.proofs.Common.{◌≡◌, ℕ, ◌<◌, true, cond, eqb, List, [], ◌∷◌, ◌++◌, sym, refl, ap, ◌∙◌, subst}
use Rattle.std.proofs.lemmas.Bool.{cond-true, cond_both, eq-eqb}
use Rattle.rules.specs.declared.command.Command.{Command}
use Rattle.rules.specs.declared.description.Description.{Description}
use Rattle.rules.specs.declared.register.Register.{Register}
use Rattle.rules.specs.Checks.{accepted}
use Rattle.rules.specs.Ends.{AlikeAt, delegation}
use Rattle.rules.specs.Laws.{Runs}
use Rattle.rules.specs.Ledger.{Event, Ledger, fed, fed_all, ledger, opened}
use Rattle.rules.specs.State.{State, queue}
use Rattle.rules.specs.Transition.{next, resets}
use Rattle.rules.proofs.Ends.{lines_same}
use Rattle.rules.proofs.Facts.{delegates}
use Rattle.rules.proofs.Ledgers.{InStep, fed_in_step, runs_in_step, says}
use Rattle.rules.proofs.Moves.{moved, moved_depth, next_seen}
use Rattle.rules.proofs.Views.{Mail, mail, Sized, given}

-- No run alters a depth.
next_depth : (d : Description) (s : State) → Sized s → (k : ℕ) → k < d.mailboxes → (c : Command) → (queue (next d s c) k).depth ≡ (queue s k).depth
next_depth d s z k l c = ap (λ (v : Mail). v.queue.depth) (next_seen d s z k l c)
    ∙ cond_both (accepted d s c) (moved d (resets d s) k c (mail s k)) (mail s k) (λ (v : Mail). v.queue.depth ≡ (queue s k).depth)
    (λ t. moved_depth d (resets d s) k (mail s k) c) (λ t. refl)

run_depth : (d : Description) (s : State) (b : Ledger) → InStep d s b → (es : List Event) (t : State) → Runs d s es t → (k : ℕ) → k < d.mailboxes → (queue t k).depth ≡ (queue s k).depth
run_depth d s b r [] t q k l = ap (λ (u : State). (queue u k).depth) (sym q)
run_depth d s b r (e ∷ es) t q k l = run_depth d (next d s e.command) (fed d b e) (fed_in_step d s b r e q.0) es t q.1 k l ∙ next_depth d s r.sized k l e.command

-- A run in parts.
pub runs_join : (d : Description) (s : State) (es fs : List Event) (t u : State) → Runs d s es t → Runs d t fs u → Runs d s (es ++ fs) u
runs_join d s [] fs t u q q' = subst (λ (v : State). Runs d v fs u) (sym q) q'
runs_join d s (e ∷ es) fs t u q q' = (q.0, runs_join d (next d s e.command) es fs t u q.1 q')

pub record Parted (d : Description) (s : State) (es fs : List Event) (u : State) : Type 0 where
  pub between : State
  pub before : Runs d s es between
  pub after : Runs d between fs u

pub runs_part : (d : Description) (s : State) (es fs : List Event) (u : State) → Runs d s (es ++ fs) u → Parted d s es fs u
runs_part d s [] fs u q = record { between = s; before = refl; after = q }
runs_part d s (e ∷ es) fs u q =
    let p = runs_part d (next d s e.command) es fs u q.1 in
    record { between = p.between; before = (q.0, p.before); after = p.after }

-- What is known of a run right after an accepted delegation, and of the stretch that follows.
pub record Delegated (d : Description) (s : State) (b : Ledger) (k x l t : ℕ) (before during : List Event) (e : Event) : Type 0 where
  pub start : State
  pub end : State
  pub in_step : InStep d start (fed_all d b (before ++ e ∷ []))
  pub someone : x ≡ 0 → ⊥
  pub seen : mail start k ≡ record { register = record { owner = x; limit = l; time = t }; queue = record { depth = (queue s k).depth; words = [] } }
  pub goes : Runs d start during end

delegated : (d : Description) (s : State) (b : Ledger) → InStep d s b → (k : ℕ) → k < d.mailboxes → (c x l t v : ℕ) (before during after : List Event) (u : State)
    → Runs d s (before ++ (delegation c k x l t v ∷ (during ++ after))) u → Delegated d s b k x l t before during (delegation c k x l t v)
delegated d s b r k h c x l t v before during after u q =
    let e = delegation c k x l t v in
    let p = runs_part d s before (e ∷ (during ++ after)) u q in
    let m = p.between in
    let r' = runs_in_step d s b r before m p.before in
    let ok : accepted d m e.command ≡ true = sym (says d m e p.after.0) in
    let g : Register = record { owner = x; limit = l; time = t } in
    let start = next d m e.command in
    let rest = runs_part d start during after u p.after.1 in
    let here = next_seen d m r'.sized k h e.command ∙ cond-true (accepted d m e.command) (cond (eqb k k) (given g (mail m k)) (mail m k)) (mail m k) ok
    ∙ cond-true (eqb k k) (given g (mail m k)) (mail m k) (eq-eqb k k refl) in
    let deep = run_depth d s b r before m p.before k h in
    record {
      start = start;
      end = rest.between;
      in_step = runs_in_step d s b r (before ++ e ∷ []) start (runs_join d s before (e ∷ []) m start p.before (p.after.0, refl));
      someone = (delegates d m c k x l t ok).someone;
      seen = here ∙ (λ i. record { register = g; queue = record { depth = deep i; words = [] } });
      goes = rest.before;
    }

pub runs_alike : (d : Description) (s s' : State) → InStep d s opened → InStep d s' opened → (es fs : List Event) (t t' : State) → Runs d s es t → Runs d s' fs t'
    → (k : ℕ) → k < d.mailboxes → (queue s k).depth ≡ (queue s' k).depth → AlikeAt d k es fs
runs_alike d s s' r r' es fs t t' q q' k h deep x l n c v c' v' before during after before' during' after' f f' same =
    let p = delegated d s opened r k h c x l n v before during after t (subst (λ (w : List Event). Runs d s w t) f q) in
    let p' = delegated d s' opened r' k h c' x l n v' before' during' after' t' (subst (λ (w : List Event). Runs d s' w t') f' q') in
    let g : Register = record { owner = x; limit = l; time = n } in
    lines_same d k x h p.someone during during' p.start p.end p'.start p'.end
    (ledger d (before ++ delegation c k x l n v ∷ [])) (ledger d (before' ++ delegation c' k x l n v' ∷ [])) p.in_step p'.in_step
    (p.seen ∙ ap (λ (z : ℕ). let w : Mail = record { register = g; queue = record { depth = z; words = [] } } in w) deep ∙ sym p'.seen)
    (ap (λ (w : Mail). w.register.owner) p.seen) p.goes p'.goes same
