-- Every run is lawful.
use Rattle.std.proofs.Common.{ℕ, ◌+◌, ◌<◌, List, ◌++◌, length, sym, ap, ◌∙◌, arith, length-append}
use Rattle.bank.specs.Queues.{Queue}
use Rattle.rules.specs.Laws.{RunsAreLawful}
use Rattle.rules.specs.Ledger.{ledger, opened}
use Rattle.rules.specs.State.{fresh, queue}
use Rattle.rules.specs.Words.{all_left, all_sent}
use Rattle.rules.proofs.Accounts.{limit_stands, time_stands}
use Rattle.rules.proofs.Fresh.{fresh_in_step, fresh_queue}
use Rattle.rules.proofs.Holders.{fed_entitled, fresh_proper, owner_wired, runs_proper}
use Rattle.rules.proofs.TwoRuns.{runs_alike}
use Rattle.rules.proofs.Views.{mail}
use Rattle.rules.proofs.Words.{left_counted, run_kept}

pub lawful : RunsAreLawful
lawful d qs sound es t q =
    let s = fresh qs in
    let r = fresh_in_step d qs sound in
    let p = runs_proper d s opened (fresh_proper d qs sound) es t q in
    let fewer = d.fewer in
    let kept = λ (k : ℕ) (l : k < d.mailboxes).
    ap (λ (ws : List ℕ). ws ++ all_sent k es) (sym (ap (λ (u : Queue). u.words) (fresh_queue d qs sound k (omega arith)))) ∙ run_kept d s opened r es t q k l in
    let few = d.few in
    record {
      held = λ k l. let a = (p.in_step.mails k l).tallies in λ i. record { owner = a.owner i; limit = a.limit i; time = a.time i };
      limits = λ k l. limit_stands (mail t k) ((ledger d es).account k) (p.in_step.mails k l);
      times = λ k l. time_stands (mail t k) ((ledger d es).account k) (p.in_step.mails k l);
      guards = λ x l. p.in_step.guards x (omega arith);
      wired = owner_wired d t (ledger d es) p;
      fed = fed_entitled d t (ledger d es) p;
      kept = kept;
      counted = λ k l. ap length (kept k l) ∙ length-append (all_left d opened k es) (queue t k).words ∙ ap (λ (n : ℕ). n + length (queue t k).words) (left_counted d opened k es);
      alike = λ ps sound' fs u q' k l deep.
          runs_alike d s (fresh ps) r (fresh_in_step d ps sound') es fs t u q q' k l
          (ap (λ (u : Queue). u.depth) (fresh_queue d qs sound k (omega arith)) ∙ deep ∙ sym (ap (λ (u : Queue). u.depth) (fresh_queue d ps sound' k (omega arith))));
    }
