-- What each command does to one mailbox: it follows from that mailbox alone, but for resets.
use Rattle.std.proofs.Common.{◌≡◌, ℕ, ◌<◌, Bool, true, false, cond, ◌&&◌, eqb, ◌≢◌, refl, arith}
use Rattle.std.proofs.lemmas.Bool.{cond_both}
use Rattle.bank.specs.Queues.{grown, shrunk, wiped}
use Rattle.rules.specs.declared.command.Command.{Command}
use Rattle.rules.specs.declared.command.Command.TheVariants.{Delegate, Yield, Send, Receive, Status, GuardWrite, GuardRead, Arbiter, Stream, Pull, Tick}
use Rattle.rules.specs.declared.description.Description.{Description}
use Rattle.rules.specs.declared.route.Route.{Route}
use Rattle.rules.specs.declared.route.Route.TheVariants.{Own, Dma}
use Rattle.rules.specs.declared.register.Register.{Register}
use Rattle.rules.specs.Checks.{accepted}
use Rattle.rules.specs.Description.{device, fixed}
use Rattle.rules.specs.Register.{managers}
use Rattle.rules.specs.Route.{pulls_from, streams_to}
use Rattle.rules.specs.State.{State, register}
use Rattle.rules.specs.Transition.{act, next, resets, transferred}
use Rattle.rules.proofs.Views.{Mail, mail, Sized, Beside, accesses, closed_if, expired, given, pays, queueing, spent, ticks, ages, seen, sized_beside, queue_there, transferred_here, transferred_there, transferred_beside, queue_beside, access_beside, access_seen, aged_beside, aged_seen}
use Rattle.rules.proofs.Resets.{guarded_beside, guarded_seen}

-- an accepted command at mailbox k; `resetting x w` says whether value w, written to the guard of x, resets x
abbrev pub moved : Description → (ℕ → ℕ → Bool) → ℕ → Command → Mail → Mail
moved d resetting k (Delegate c j to l t) v = cond (eqb k j) (given (record { owner = to; limit = l; time = t }) v) v
moved d resetting k (Yield c j) v = cond (eqb k j) (given managers v) v
moved d resetting k (Send c j w) v = cond (eqb k j) (accesses c (grown w) v) v
moved d resetting k (Receive c j) v = cond (eqb k j) (accesses c shrunk v) v
moved d resetting k (Status c j) v = v
moved d resetting k (GuardWrite c x w) v = cond (resetting x w && eqb (fixed d k) x) (queueing wiped v) v
moved d resetting k (GuardRead c x) v = v
moved d resetting k (Arbiter c w) v = v
moved d resetting k (Stream w) v = v
moved d resetting k (Pull c) v = v
moved d resetting k Tick v = ticks v

-- queues 8 and 9 are no mailbox's
streams_apart : (r : Route) (k : ℕ) → k < 8 → k ≢ streams_to r
streams_apart Own k l = λ e. omega arith
streams_apart Dma k l = λ e. omega arith

pulls_apart : (d : Description) (c k : ℕ) → k < 8 → k ≢ pulls_from d c
pulls_apart d c k l = cond_both (eqb c (device d)) 8 9 (λ q. k ≢ q) (λ t e. omega arith) (λ t e. omega arith)

module _ (d : Description) (s : State) (z : Sized s) where
  transferred_seen : (j k : ℕ) → k < 8 → (r : Register) → mail (transferred s j r) k ≡ cond (eqb k j) (given r (mail s k)) (mail s k)
  transferred_seen j k l r = seen s (transferred s j r) j k (given r) (λ e. transferred_here s z j (omega arith) r) (λ n. transferred_there s j k n r)

  pub act_seen : (k : ℕ) → k < d.mailboxes → (c : Command) → mail (act d s c) k ≡ moved d (resets d s) k c (mail s k)
  act_seen k l (Delegate c j to m t) = let few = d.fewer in transferred_seen j k (omega arith) (record { owner = to; limit = m; time = t })
  act_seen k l (Yield c j) = let few = d.fewer in transferred_seen j k (omega arith) managers
  act_seen k l (Send c j w) = let few = d.fewer in access_seen c (grown w) s j z k (omega arith)
  act_seen k l (Receive c j) = let few = d.fewer in access_seen c shrunk s j z k (omega arith)
  act_seen k l (Status c j) = refl
  act_seen k l (GuardWrite c x w) = guarded_seen d s x w z k l
  act_seen k l (GuardRead c x) = refl
  act_seen k l (Arbiter c w) = refl
  act_seen k l (Stream w) =
      let few = d.fewer in
      let apart = streams_apart s.route k (omega arith) in
      λ i. record { register = register s k; queue = queue_there s (streams_to s.route) k apart (grown w) i }
  act_seen k l (Pull c) =
      let few = d.fewer in
      let apart = pulls_apart d c k (omega arith) in
      λ i. record { register = register s k; queue = queue_there s (pulls_from d c) k apart shrunk i }
  act_seen k l Tick = aged_seen d.mailboxes s z d.fewer k l

  -- the arbiter has no part in the sizes
  settled : (t : State) (r : Route) → Beside s t → Sized (record { registers = t.registers; guards = t.guards; route = r; queues = t.queues })
  settled t r b = let y = sized_beside s t z b in record { eight = y.eight; sixteen = y.sixteen; ten = y.ten }

  pub act_sized : (c : Command) → Sized (act d s c)
  act_sized (Delegate c j to m t) = sized_beside s _ z (transferred_beside s j (record { owner = to; limit = m; time = t }))
  act_sized (Yield c j) = settled _ _ (transferred_beside s j managers)
  act_sized (Send c j w) = settled _ _ (access_beside c (grown w) s j)
  act_sized (Receive c j) = settled _ _ (access_beside c shrunk s j)
  act_sized (Status c j) = z
  act_sized (GuardWrite c x w) = (guarded_beside d s x w z).sized
  act_sized (GuardRead c x) = z
  act_sized (Arbiter c w) = record { eight = z.eight; sixteen = z.sixteen; ten = z.ten }
  act_sized (Stream w) = sized_beside s _ z (queue_beside (grown w) s (streams_to s.route))
  act_sized (Pull c) = sized_beside s _ z (queue_beside shrunk s (pulls_from d c))
  act_sized Tick = settled _ _ (aged_beside d.mailboxes s)

  -- the same of any command, accepted or refused
  pub next_seen : (k : ℕ) → k < d.mailboxes → (c : Command) → mail (next d s c) k ≡ cond (accepted d s c) (moved d (resets d s) k c (mail s k)) (mail s k)
  next_seen k l c = go (accepted d s c)
    where
      go : (t : Bool) → mail (cond t (act d s c) s) k ≡ cond t (moved d (resets d s) k c (mail s k)) (mail s k)
      go true = act_seen k l c
      go false = refl

  pub next_sized : (c : Command) → Sized (next d s c)
  next_sized c = cond_both (accepted d s c) (act d s c) s Sized (λ t. act_sized c) (λ t. z)

-- No command alters a depth.
module _ (d : Description) (resetting : ℕ → ℕ → Bool) (k : ℕ) (v : Mail) where
  same_depth : (t : Bool) (w : Mail) → w.queue.depth ≡ v.queue.depth → (cond t w v).queue.depth ≡ v.queue.depth
  same_depth t w e = cond_both t w v (λ (u : Mail). u.queue.depth ≡ v.queue.depth) (λ p. e) (λ p. refl)

  closed_depth : (t : Bool) (w : Mail) → w.queue.depth ≡ v.queue.depth → (closed_if t w).queue.depth ≡ v.queue.depth
  closed_depth t w e = cond_both t (given managers w) w (λ (u : Mail). u.queue.depth ≡ v.queue.depth) (λ p. e) (λ p. e)

  pub moved_depth : (c : Command) → (moved d resetting k c v).queue.depth ≡ v.queue.depth
  moved_depth (Delegate c j to l t) = same_depth (eqb k j) (given (record { owner = to; limit = l; time = t }) v) refl
  moved_depth (Yield c j) = same_depth (eqb k j) (given managers v) refl
  moved_depth (Send c j w) = let u = pays c (queueing (grown w) v) in same_depth (eqb k j) (accesses c (grown w) v) (closed_depth (spent u) u refl)
  moved_depth (Receive c j) = let u = pays c (queueing shrunk v) in same_depth (eqb k j) (accesses c shrunk v) (closed_depth (spent u) u refl)
  moved_depth (Status c j) = refl
  moved_depth (GuardWrite c x w) = same_depth (resetting x w && eqb (fixed d k) x) (queueing wiped v) refl
  moved_depth (GuardRead c x) = refl
  moved_depth (Arbiter c w) = refl
  moved_depth (Stream w) = refl
  moved_depth (Pull c) = refl
  moved_depth Tick = closed_depth (expired (ages v)) (ages v) refl
