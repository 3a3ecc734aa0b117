-- Why a command is refused. Here and in the transition d is the description, s a state, c the caller, k a mailbox, x a
-- domain, q a queue, l a limit, t a time, w a word and v a value.
use Rattle.std.specs.Prelude.{ℕ, Bool, true, false, cond, not, ◌&&◌, ◌||◌, List, [], ◌∷◌, Ok, Err, is_none, ◌==◌, nat_le, nat_lt}
use Rattle.bank.specs.Queues.{empty, full}
use Rattle.rules.specs.declared.command.Command.{Command}
use Rattle.rules.specs.declared.command.Command.TheVariants.{Delegate, Yield, Send, Receive, Status, GuardWrite, GuardRead, Arbiter, Stream, Pull, Tick}
use Rattle.rules.specs.declared.description.Description.{Description}
use Rattle.rules.specs.declared.wiring.Direction.{Direction}
use Rattle.rules.specs.declared.wiring.Direction.TheVariants.{FixedSends, OwnerSends}
use Rattle.rules.specs.declared.refusal.Refusal.{Refusal}
use Rattle.rules.specs.declared.refusal.Refusal.TheVariants.{UnknownCaller, UnknownMailbox, UnknownDomain, NoArbiter, NotPermitted, NotItsMailbox, WrongDirection, NotWired, OutOfRange, UnknownRoute, NotEntitled, QueueFull, QueueEmpty}
use Rattle.rules.specs.Description.{device, fixed, is_wired, untrusted, wiring}
use Rattle.rules.specs.Ownership.{entitled}
use Rattle.rules.specs.Refusal.{Answer}
use Rattle.rules.specs.Register.{unlimited}
use Rattle.rules.specs.Route.{dma, own, pulls_from, streams_to}
use Rattle.rules.specs.State.{State, owner, queue}

-- A check: a test, and the refusal where it is met.
abbrev pub Check : Type 0
Check = Bool × Refusal

abbrev pub unknown_caller : Description → ℕ → Check
unknown_caller d c = (nat_le d.domains c, UnknownCaller)

abbrev pub unknown_mailbox : Description → ℕ → Check
unknown_mailbox d k = (nat_le d.mailboxes k, UnknownMailbox)

-- the manager, or no domain at all
abbrev pub unknown_domain : Description → ℕ → Check
unknown_domain d x = (x == 0 || nat_le d.domains x, UnknownDomain)

abbrev pub no_arbiter : Description → Check
no_arbiter d = (is_none d.arbiter, NoArbiter)

abbrev pub not_manager : ℕ → Check
not_manager c = (not (c == 0), NotPermitted)

abbrev pub is_manager : ℕ → Check
is_manager c = ((c == 0), NotPermitted)

abbrev pub no_puller : Description → ℕ → Check
no_puller d c = (not (c == device d) && not (c == untrusted d), NotPermitted)

abbrev pub not_owner : State → ℕ → ℕ → Check
not_owner s c k = (not (c == owner s k), NotItsMailbox)

-- neither owner nor fixed domain
abbrev pub stranger : Description → State → ℕ → ℕ → Bool
stranger d s c k = not (c == owner s k) && not (c == fixed d k)

abbrev pub not_its_end : Description → State → ℕ → ℕ → Check
not_its_end d s c k = (stranger d s c k, NotItsMailbox)

abbrev pub sender : Direction → ℕ → ℕ → ℕ
sender OwnerSends owner fixed = owner
sender FixedSends owner fixed = fixed

abbrev pub receiver : Direction → ℕ → ℕ → ℕ
receiver OwnerSends owner fixed = fixed
receiver FixedSends owner fixed = owner

abbrev pub not_sender : Description → State → ℕ → ℕ → Check
not_sender d s c k = (not (c == sender (wiring d k).direction (owner s k) (fixed d k)), WrongDirection)

abbrev pub not_receiver : Description → State → ℕ → ℕ → Check
not_receiver d s c k = (not (c == receiver (wiring d k).direction (owner s k) (fixed d k)), WrongDirection)

abbrev pub not_wired : Description → ℕ → ℕ → Check
not_wired d k x = (not (is_wired d k x), NotWired)

abbrev pub beyond : ℕ → Bool
beyond figure = figure == 0 || nat_lt unlimited figure

abbrev pub out_of_range : ℕ → ℕ → Check
out_of_range limit time = (beyond limit || beyond time, OutOfRange)

abbrev pub unknown_route : ℕ → Check
unknown_route v = (not (v == dma) && not (v == own), UnknownRoute)

abbrev pub not_entitled : Description → State → ℕ → Check
not_entitled d s v = (v == dma && not (entitled d (owner s)), NotEntitled)

abbrev pub queue_full : State → ℕ → Check
queue_full s q = (full (queue s q), QueueFull)

abbrev pub queue_empty : State → ℕ → Check
queue_empty s q = (empty (queue s q), QueueEmpty)

-- THE CHECKS of each command, in their order, which is that of the refusals' numbers.
abbrev pub checks : Description → State → Command → List Check
checks d s (Delegate c k to l t) = unknown_caller d c ∷ unknown_mailbox d k ∷ unknown_domain d to ∷ not_manager c ∷ not_owner s c k ∷ not_wired d k to ∷ out_of_range l t ∷ []
checks d s (Yield c k) = unknown_caller d c ∷ unknown_mailbox d k ∷ is_manager c ∷ not_owner s c k ∷ []
checks d s (Send c k w) = unknown_caller d c ∷ unknown_mailbox d k ∷ not_its_end d s c k ∷ not_sender d s c k ∷ queue_full s k ∷ []
checks d s (Receive c k) = unknown_caller d c ∷ unknown_mailbox d k ∷ not_its_end d s c k ∷ not_receiver d s c k ∷ queue_empty s k ∷ []
checks d s (Status c k) = unknown_caller d c ∷ unknown_mailbox d k ∷ []
checks d s (GuardWrite c x v) = unknown_caller d c ∷ unknown_domain d x ∷ not_manager c ∷ []
checks d s (GuardRead c x) = unknown_caller d c ∷ unknown_domain d x ∷ not_manager c ∷ []
checks d s (Arbiter c v) = unknown_caller d c ∷ no_arbiter d ∷ not_manager c ∷ unknown_route v ∷ not_entitled d s v ∷ []
checks d s (Stream w) = no_arbiter d ∷ queue_full s (streams_to s.route) ∷ []
checks d s (Pull c) = unknown_caller d c ∷ no_arbiter d ∷ no_puller d c ∷ queue_empty s (pulls_from d c) ∷ []
checks d s Tick = []

-- the refusal of the first check that is met, and else the value
abbrev pub first_met : List Check → ℕ → Answer
first_met [] v = Ok v
first_met (check ∷ rest) v = cond check.0 (Err check.1) (first_met rest v)

abbrev pub none_met : List Check → Bool
none_met [] = true
none_met (check ∷ rest) = cond check.0 false (none_met rest)

abbrev pub accepted : Description → State → Command → Bool
accepted d s c = none_met (checks d s c)
