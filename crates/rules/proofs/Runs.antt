-- Every list of commands has one run.
use Rattle.std.proofs.Common.{◌≡◌, List, [], ◌∷◌, length, sym, refl, ap, ◌∙◌, subst, arith}
use Rattle.rules.specs.declared.command.Command.{Command}
use Rattle.rules.specs.Ledger.{Event}
use Rattle.rules.specs.Laws.{EachListHasOneRun, OneRun, Runs, commands}
use Rattle.rules.specs.State.{State}
use Rattle.rules.specs.Transition.{answer, next}

pub one_run : EachListHasOneRun
one_run d s [] = record { events = []; end = s; theirs = refl; runs = refl; only = only }
  where
    only : (es : List Event) (t : State) → commands es ≡ [] → Runs d s es t → (es ≡ []) × (t ≡ s)
    only [] t h q = (refl, sym q)
    only (e ∷ es) t h q = let n = ap length h in absurd (omega arith)
one_run d s (c ∷ cs) = go (one_run d (next d s c) cs)
  where
    go : OneRun d (next d s c) cs → OneRun d s (c ∷ cs)
    go r = record {
      events = record { command = c; answer = answer d s c } ∷ r.events;
      end = r.end;
      theirs = ap (λ (l : List Command). c ∷ l) r.theirs;
      runs = (refl, r.runs);
      only = only;
    }
      where
        only : (es : List Event) (t : State) → commands es ≡ c ∷ cs → Runs d s es t → (es ≡ record { command = c; answer = answer d s c } ∷ r.events) × (t ≡ r.end)
        only [] t h q = let n = ap length h in absurd (omega arith)
        only (e ∷ es) t h q =
            let same : e.command ≡ c = cc in
            let more : commands es ≡ cs = cc in
            let rest = r.only es t more (subst (λ (x : Command). Runs d (next d s x) es t) same q.1) in
            let told = q.0 ∙ ap (answer d s) same in
            ((λ i. record { command = same i; answer = told i } ∷ rest.0 i), rest.1)
