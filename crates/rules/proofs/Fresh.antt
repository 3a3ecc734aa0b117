-- A rack as it is made: no word waits, no depth is altered, and it is in step with the opened ledger.
use Rattle.std.proofs.Common.{◌≡◌, ℕ, ◌<◌, true, List, refl, ap, ◌∙◌, arith}
use Rattle.std.proofs.lemmas.List.{get_or-replicate}
use Rattle.bank.specs.Queues.{Queue, Sound, at, wiped}
use Rattle.rules.specs.declared.description.Description.{Description}
use Rattle.rules.specs.declared.register.Register.{Register}
use Rattle.rules.specs.Guard.{fresh_guard}
use Rattle.rules.specs.Ledger.{opened}
use Rattle.rules.specs.Register.{managers}
use Rattle.rules.specs.State.{fresh, no_guard, no_register, queue, register}
use Rattle.rules.proofs.Ledgers.{InStep}
use Rattle.rules.proofs.Wipes.{length-wiped_where, wiped_seen}

module _ (d : Description) (qs : List Queue) (sound : Sound qs) where
  pub fresh_queue : (k : ℕ) → k < 10 → queue (fresh qs) k ≡ wiped (at qs k)
  fresh_queue k l = wiped_seen (λ q. true) qs 10 (omega (arith, sound.ten)) k l

  fresh_register : (k : ℕ) → k < 8 → register (fresh qs) k ≡ managers
  fresh_register k l = get_or-replicate 8 k managers no_register l

  pub fresh_in_step : InStep d (fresh qs) opened
  fresh_in_step = record {
    sized = record { eight = refl; sixteen = refl; ten = length-wiped_where (λ q. true) qs 10 ∙ sound.ten };
    mails = λ k l.
        let few = d.fewer in
        let e = fresh_register k (omega arith) in
        record {
          tallies = record {
            owner = ap (λ (r : Register). r.owner) e;
            limit = ap (λ (r : Register). r.limit) e;
            time = ap (λ (r : Register). r.time) e;
            words = ap (λ (u : Queue). u.words) (fresh_queue k (omega arith));
            limit_fits = omega arith;
            time_fits = omega arith;
          };
          standing = λ n. absurd (n refl);
        };
    guards = λ x l. get_or-replicate 16 x fresh_guard no_guard l;
  }
