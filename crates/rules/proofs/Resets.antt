-- A write to a guard, as it is seen at one mailbox and beside it.
use Rattle.std.proofs.Common.{◌≡◌, ℕ, ◌<◌, Bool, true, false, cond, ◌&&◌, eqb, length, set, refl, ◌∙◌, arith}
use Rattle.std.proofs.lemmas.List.{length-set}
use Rattle.bank.specs.Queues.{wiped}
use Rattle.rules.specs.declared.description.Description.{Description}
use Rattle.rules.specs.declared.guard.Guard.{Guard}
use Rattle.rules.specs.declared.route.Route.TheVariants.{Own, Dma}
use Rattle.rules.specs.Description.{device, fixed, untrusted}
use Rattle.rules.specs.Guard.{effect, left_by}
use Rattle.rules.specs.Ownership.{blocked}
use Rattle.rules.specs.State.{State, guard, owner, queue, register, wiped_if, with_guard}
use Rattle.rules.specs.Transition.{guarded, reset, resets, wiped_at}
use Rattle.rules.proofs.Wipes.{length-wiped_if, length-wiped_where, wiped_seen, wiped_there}
use Rattle.rules.proofs.Views.{Mail, mail, Sized, queueing}

module _ (d : Description) (x : ℕ) (t : State) (z : Sized t) where
  reset_seen : (k : ℕ) → k < d.mailboxes → mail (reset d x t) k ≡ cond (eqb (fixed d k) x) (queueing wiped (mail t k)) (mail t k)
  reset_seen k l =
      let few = d.fewer in
      let qs = t.queues in
      let us = wiped_at d x d.mailboxes qs in
      let e : queue (reset d x t) k ≡ cond (eqb (fixed d k) x) (wiped (queue t k)) (queue t k) =
      wiped_there (eqb x (untrusted d)) 9 k (wiped_if (eqb x (device d)) 8 us) (λ p. omega arith) ∙ wiped_there (eqb x (device d)) 8 k us (λ p. omega arith)
      ∙ wiped_seen (λ q. eqb (fixed d q) x) qs d.mailboxes (omega (arith, z.ten)) k l in
      (λ i. record { register = register t k; queue = e i }) ∙ picked (eqb (fixed d k) x)
    where
      picked : (b : Bool) → ◌≡◌ {A = Mail} (record { register = register t k; queue = cond b (wiped (queue t k)) (queue t k) }) (cond b (queueing wiped (mail t k)) (mail t k))
      picked true = refl
      picked false = refl

  length-reset : length (reset d x t).queues ≡ length t.queues
  length-reset = length-wiped_if (eqb x (untrusted d)) 9 _ ∙ length-wiped_if (eqb x (device d)) 8 _ ∙ length-wiped_where (λ q. eqb (fixed d q) x) t.queues d.mailboxes

pub own_not_dma : Own ≡ Dma → ⊥
own_not_dma e = let z : ◌≡◌ {A = ℕ} 0 1 = cc in omega arith

module _ (d : Description) (s : State) (x v : ℕ) where
  abbrev pub after : Guard
  after = left_by (effect (guard s x).stance v) (blocked d (owner s) x) (guard s x)

  sized_guard : Sized s → Sized (with_guard s x after)
  sized_guard z = record { eight = z.eight; sixteen = length-set s.guards x after ∙ z.sixteen; ten = z.ten }

  pub guarded_seen : Sized s → (k : ℕ) → k < d.mailboxes → mail (guarded d s x v) k ≡ cond (resets d s x v && eqb (fixed d k) x) (queueing wiped (mail s k)) (mail s k)
  guarded_seen z k l = go (resets d s x v)
    where
      go : (t : Bool) → mail (cond t (reset d x (with_guard s x after)) (with_guard s x after)) k ≡ cond (t && eqb (fixed d k) x) (queueing wiped (mail s k)) (mail s k)
      go true = reset_seen d x (with_guard s x after) (sized_guard z) k l
      go false = refl

  -- beside the queues only the guard and the arbiter can change
  pub record Written (t : State) : Type 0 where
    pub registers : t.registers ≡ s.registers
    pub guards : t.guards ≡ set s.guards x after
    pub route : t.route ≡ Dma → s.route ≡ Dma
    pub sized : Sized t

  pub guarded_beside : Sized s → Written (guarded d s x v)
  guarded_beside z = go (resets d s x v)
    where
      falls : (b : Bool) → cond b Own s.route ≡ Dma → s.route ≡ Dma
      falls true e = absurd (own_not_dma e)
      falls false e = e

      go : (t : Bool) → Written (cond t (reset d x (with_guard s x after)) (with_guard s x after))
      go true =
          let y = sized_guard z in
          record {
            registers = refl;
            guards = refl;
            route = falls (eqb x (device d));
            sized = record { eight = y.eight; sixteen = y.sixteen; ten = length-reset d x (with_guard s x after) y ∙ y.ten };
          }
      go false = record { registers = refl; guards = refl; route = λ e. e; sized = sized_guard z }
