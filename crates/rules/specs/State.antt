-- The state of a rack: the register of each mailbox, the guard of each domain, the arbiter's route, and the bank's queues.
use Rattle.std.specs.Prelude.{ℕ, zero, suc, Bool, true, cond, List, replicate, slice_index_or, slice_set}
use Rattle.bank.specs.Queues.{Queue, at, change, wiped}
use Rattle.rules.specs.declared.guard.Guard.{Guard}
use Rattle.rules.specs.declared.guard.Stance.TheVariants.{Idle}
use Rattle.rules.specs.declared.register.Register.{Register}
use Rattle.rules.specs.declared.route.Route.{Route}
use Rattle.rules.specs.declared.route.Route.TheVariants.{Own}
use Rattle.rules.specs.Guard.{fresh_guard}
use Rattle.rules.specs.Register.{managers}

pub record State : Type 0 where
  pub registers : List Register
  pub guards : List Guard
  pub route : Route
  pub queues : List Queue

-- what stands at a number that no mailbox, or no domain, has
abbrev pub no_register : Register
no_register = record { owner = 0; limit = 0; time = 0 }

abbrev pub no_guard : Guard
no_guard = record { stance = Idle; result = 0 }

abbrev pub register : State → ℕ → Register
register s k = slice_index_or s.registers k no_register

abbrev pub owner : State → ℕ → ℕ
owner s k = (register s k).owner

abbrev pub guard : State → ℕ → Guard
guard s x = slice_index_or s.guards x no_guard

-- mailbox k uses queue k
abbrev pub queue : State → ℕ → Queue
queue s q = at s.queues q

-- the same state but for one part of it
abbrev pub with_register : State → ℕ → Register → State
with_register s k r = record { registers = slice_set s.registers k r; guards = s.guards; route = s.route; queues = s.queues }

abbrev pub with_guard : State → ℕ → Guard → State
with_guard s x g = record { registers = s.registers; guards = slice_set s.guards x g; route = s.route; queues = s.queues }

abbrev pub with_route : State → Route → State
with_route s r = record { registers = s.registers; guards = s.guards; route = r; queues = s.queues }

abbrev pub with_queues : State → List Queue → State
with_queues s qs = record { registers = s.registers; guards = s.guards; route = s.route; queues = qs }

abbrev pub wiped_if : Bool → ℕ → List Queue → List Queue
wiped_if t q qs = cond t (change wiped qs q) qs

-- each queue below n that passes the test is wiped
abbrev pub wiped_where : (ℕ → Bool) → ℕ → List Queue → List Queue
wiped_where test zero qs = qs
wiped_where test (suc n) qs = wiped_if (test n) n (wiped_where test n qs)

-- the first n queues are wiped
abbrev pub wiped_below : ℕ → List Queue → List Queue
wiped_below n qs = wiped_where (λ q. true) n qs

-- A rack as it is made, over a bank with the given queues: each mailbox is the manager's, each guard fresh, and no word
-- waits. There is room for 8 mailboxes and 16 domains, whatever the description says.
abbrev pub fresh : List Queue → State
fresh qs = record { registers = replicate 8 managers; guards = replicate 16 fresh_guard; route = Own; queues = wiped_below 10 qs }
