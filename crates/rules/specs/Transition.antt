-- What each command is answered, and what it changes: the checks first, and then its value and its effect.
use Rattle.std.specs.Prelude.{ℕ, zero, suc, Bool, cond, not, ◌&&◌, List, ◌==◌, slice_set}
use Rattle.bank.specs.Queues.{Queue, change, grown, oldest, shrunk, wiped}
use Rattle.rules.specs.declared.command.Command.{Command}
use Rattle.rules.specs.declared.command.Command.TheVariants.{Delegate, Yield, Send, Receive, Status, GuardWrite, GuardRead, Arbiter, Stream, Pull, Tick}
use Rattle.rules.specs.declared.description.Description.{Description}
use Rattle.rules.specs.declared.register.Register.{Register}
use Rattle.rules.specs.declared.route.Route.TheVariants.{Own}
use Rattle.rules.specs.Checks.{accepted, checks, first_met, stranger}
use Rattle.rules.specs.Description.{device, fixed, untrusted}
use Rattle.rules.specs.Guard.{effect, left_by, tries}
use Rattle.rules.specs.Ownership.{blocked, entitled}
use Rattle.rules.specs.Refusal.{Answer}
use Rattle.rules.specs.Register.{accessed, managers, packed, ticked}
use Rattle.rules.specs.Route.{pulls_from, selected, streams_to}
use Rattle.rules.specs.State.{State, guard, owner, queue, register, wiped_if, wiped_where, with_guard, with_queues, with_register, with_route}

-- what a stranger reads in place of the register
abbrev pub concealed : ℕ
concealed = 0xFFFFFFFF

-- THE VALUE of each command, where it is accepted.
abbrev pub value : Description → State → Command → ℕ
value d s (Delegate c k to l t) = 0
value d s (Yield c k) = 0
value d s (Send c k w) = 0
value d s (Receive c k) = oldest (queue s k)
value d s (Status c k) = cond (stranger d s c k) concealed (packed (register s k))
value d s (GuardWrite c x v) = 0
value d s (GuardRead c x) = (guard s x).result
value d s (Arbiter c v) = 0
value d s (Stream w) = 0
value d s (Pull c) = oldest (queue s (pulls_from d c))
value d s Tick = 0

-- A holding starts or ends: the mailbox has another register, and its queue is wiped.
abbrev pub transferred : State → ℕ → Register → State
transferred s k r = record { registers = slice_set s.registers k r; guards = s.guards; route = s.route; queues = change wiped s.queues k }

-- The register stands, or the holding is over and the mailbox the manager's.
abbrev pub over_if : Bool → State → ℕ → Register → State
over_if over s k r = cond over (transferred s k managers) (with_register s k r)

-- an access costs the owner one of its limit, and the fixed domain nothing
abbrev pub paid : ℕ → Register → Register
paid c r = cond (c == r.owner) (accessed r) r

-- caller c has sent to mailbox k, or received from it: a limit of 0 never stands
abbrev pub charged : ℕ → State → ℕ → State
charged c s k = let r = paid c (register s k) in over_if (r.limit == 0) s k r

-- a tick at mailbox k, and at each mailbox below n: a time of 0 never stands
abbrev pub aged : State → ℕ → State
aged s k = let r = ticked (register s k) in over_if (r.time == 0) s k r

abbrev pub all_aged : ℕ → State → State
all_aged zero s = s
all_aged (suc n) s = aged (all_aged n s) n

-- Between the states s and t the untrusted domain's last holding of a mailbox fixed at the device domain has ended: then
-- the arbiter falls back to the device's own queue.
abbrev pub fallen_back : Description → State → State → State
fallen_back d s t = with_route t (cond (entitled d (owner s) && not (entitled d (owner t))) Own t.route)

-- each mailbox below n whose fixed domain is x is wiped
abbrev pub wiped_at : Description → ℕ → ℕ → List Queue → List Queue
wiped_at d x n qs = wiped_where (λ k. fixed d k == x) n qs

-- The reset of domain x wipes each mailbox of that fixed domain; that of the device domain also queue 8, and the arbiter
-- is 0 again; that of the untrusted domain queue 9.
abbrev pub reset : Description → ℕ → State → State
reset d x s = record {
  registers = s.registers;
  guards = s.guards;
  route = cond (x == device d) Own s.route;
  queues = wiped_if (x == untrusted d) 9 (wiped_if (x == device d) 8 (wiped_at d x d.mailboxes s.queues));
}

-- value v, written to the guard of domain x, resets the domain
abbrev pub resets : Description → State → ℕ → ℕ → Bool
resets d s x v = tries (effect (guard s x).stance v) && not (blocked d (owner s) x)

abbrev pub guarded : Description → State → ℕ → ℕ → State
guarded d s x v =
    let t = with_guard s x (left_by (effect (guard s x).stance v) (blocked d (owner s) x) (guard s x)) in
    cond (resets d s x v) (reset d x t) t

-- THE EFFECT of each command, where it is accepted.
abbrev pub act : Description → State → Command → State
act d s (Delegate c k to l t) = transferred s k (record { owner = to; limit = l; time = t })
act d s (Yield c k) = fallen_back d s (transferred s k managers)
act d s (Send c k w) = fallen_back d s (charged c (with_queues s (change (grown w) s.queues k)) k)
act d s (Receive c k) = fallen_back d s (charged c (with_queues s (change shrunk s.queues k)) k)
act d s (Status c k) = s
act d s (GuardWrite c x v) = guarded d s x v
act d s (GuardRead c x) = s
act d s (Arbiter c v) = with_route s (selected v)
act d s (Stream w) = with_queues s (change (grown w) s.queues (streams_to s.route))
act d s (Pull c) = with_queues s (change shrunk s.queues (pulls_from d c))
act d s Tick = fallen_back d s (all_aged d.mailboxes s)

-- THE TRANSITION: the answer to a command, and the state after it. A refused command changes nothing.
abbrev pub answer : Description → State → Command → Answer
answer d s c = first_met (checks d s c) (value d s c)

abbrev pub next : Description → State → Command → State
next d s c = cond (accepted d s c) (act d s c) s
