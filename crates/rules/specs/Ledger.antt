-- What the accepted commands of a run add up to. The ledger is fed the description and these commands, and nothing of
-- registers, queues or answers: it says what ought to be.
use Rattle.std.specs.Prelude.{ℕ, suc, ◌-◌, Bool, false, cond, not, ◌&&◌, ◌||◌, List, [], ◌∷◌, ◌++◌, is_ok, ◌==◌, nat_le}
use Rattle.fifo.specs.Row.{rest}
use Rattle.rules.specs.declared.command.Command.{Command}
use Rattle.rules.specs.declared.command.Command.TheVariants.{Delegate, Yield, Send, Receive, Status, GuardWrite, GuardRead, Arbiter, Stream, Pull, Tick}
use Rattle.rules.specs.declared.description.Description.{Description}
use Rattle.rules.specs.declared.guard.Guard.{Guard}
use Rattle.rules.specs.declared.register.Register.{Register}
use Rattle.rules.specs.Description.{fixed}
use Rattle.rules.specs.Guard.{effect, fresh_guard, left_by, tries}
use Rattle.rules.specs.Ownership.{blocked}
use Rattle.rules.specs.Refusal.{Answer}
use Rattle.rules.specs.Register.{unlimited}

-- The account of one mailbox: who holds it, the limit and time of the latest grant, the accesses and ticks counted since,
-- and the words under way, oldest first.
pub record Account : Type 0 where
  pub holder : ℕ
  pub limit : ℕ
  pub time : ℕ
  pub accesses : ℕ
  pub ticks : ℕ
  pub words : List ℕ

pub record Ledger : Type 0 where
  pub account : ℕ → Account
  pub guard : ℕ → Guard

abbrev pub opened : Ledger
opened = record { account = λ k. record { holder = 0; limit = unlimited; time = unlimited; accesses = 0; ticks = 0; words = [] }; guard = λ x. fresh_guard }

abbrev pub holders : Ledger → ℕ → ℕ
holders b k = (b.account k).holder

-- Entries. A grant sets holder, limit and time, and both counts to 0.
abbrev pub granted : ℕ → ℕ → ℕ → Account → Account
granted to l t e = record { holder = to; limit = l; time = t; accesses = 0; ticks = 0; words = e.words }

abbrev pub vacated : Account → Account
vacated e = record { holder = 0; limit = e.limit; time = e.time; accesses = e.accesses; ticks = e.ticks; words = e.words }

abbrev pub listing : List ℕ → Account → Account
listing ws e = record { holder = e.holder; limit = e.limit; time = e.time; accesses = e.accesses; ticks = e.ticks; words = ws }

-- the holder's send or receive counts as an access, that of the other end does not; a tick counts everywhere
abbrev pub counted : ℕ → Account → Account
counted c e =
    record { holder = e.holder; limit = e.limit; time = e.time; accesses = cond (c == e.holder) (suc e.accesses) e.accesses; ticks = e.ticks; words = e.words }

abbrev pub older : Account → Account
older e = record { holder = e.holder; limit = e.limit; time = e.time; accesses = e.accesses; ticks = suc e.ticks; words = e.words }

-- what an accepted command enters into the account of mailbox k
abbrev pub entered : ℕ → Command → Account → Account
entered k (Delegate c j to l t) e = cond (k == j) (granted to l t e) e
entered k (Yield c j) e = cond (k == j && c == e.holder) (vacated e) e
entered k (Send c j w) e = cond (k == j) (counted c (listing (e.words ++ w ∷ []) e)) e
entered k (Receive c j) e = cond (k == j) (counted c (listing (rest e.words) e)) e
entered k (Status c j) e = e
entered k (GuardWrite c x v) e = e
entered k (GuardRead c x) e = e
entered k (Arbiter c v) e = e
entered k (Stream w) e = e
entered k (Pull c) e = e
entered k Tick e = older e

-- A count has reached its figure in the grant; unlimited is never reached.
abbrev pub reached : ℕ → ℕ → Bool
reached count figure = not (figure == unlimited) && nat_le figure count

abbrev pub due : Account → Bool
due e = reached e.accesses e.limit || reached e.ticks e.time

-- then the mailbox has no holder any more
abbrev pub judged : Account → Account
judged e = cond (due e) (vacated e) e

-- Each domain's guard after an accepted command, and whether the command resets that domain: the guard's own rule, with
-- the holders as owners.
abbrev pub guarded : Description → Ledger → Command → ℕ → Guard × Bool
guarded d b (Delegate c j to l t) x = (b.guard x, false)
guarded d b (Yield c j) x = (b.guard x, false)
guarded d b (Send c j w) x = (b.guard x, false)
guarded d b (Receive c j) x = (b.guard x, false)
guarded d b (Status c j) x = (b.guard x, false)
guarded d b (GuardWrite c y v) x =
    let does = effect (b.guard x).stance v in
    let stopped = blocked d (holders b) x in
    (cond (x == y) (left_by does stopped (b.guard x)) (b.guard x), (x == y) && tries does && not stopped)
guarded d b (GuardRead c y) x = (b.guard x, false)
guarded d b (Arbiter c v) x = (b.guard x, false)
guarded d b (Stream w) x = (b.guard x, false)
guarded d b (Pull c) x = (b.guard x, false)
guarded d b Tick x = (b.guard x, false)

-- The words of mailbox k are wiped where its holder changes, and where its fixed domain is reset.
abbrev pub wipes : Description → Ledger → Command → ℕ → Bool
wipes d b c k = not ((judged (entered k c (b.account k))).holder == holders b k) || (guarded d b c (fixed d k)).1

abbrev pub posted : Description → Ledger → Command → ℕ → Account
posted d b c k = let e = judged (entered k c (b.account k)) in cond (wipes d b c k) (listing [] e) e

-- the ledger after an accepted command
abbrev pub noted : Description → Ledger → Command → Ledger
noted d b c = record { account = posted d b c; guard = λ x. (guarded d b c x).0 }

-- A command of a run, with the answer that it was given.
pub record Event : Type 0 where
  pub command : Command
  pub answer : Answer

abbrev pub fed : Description → Ledger → Event → Ledger
fed d b e = cond (is_ok e.answer) (noted d b e.command) b

abbrev pub fed_all : Description → Ledger → List Event → Ledger
fed_all d b [] = b
fed_all d b (e ∷ es) = fed_all d (fed d b e) es

-- THE LEDGER of a run
abbrev pub ledger : Description → List Event → Ledger
ledger d es = fed_all d opened es

-- What a register has to read: the holder, and the grant less its counts. Unlimited stays, and under holder 0 both are.
abbrev pub left : ℕ → ℕ → ℕ → ℕ
left holder figure count = cond (holder == 0 || figure == unlimited) unlimited (figure - count)

abbrev pub reading : Account → Register
reading e = record { owner = e.holder; limit = left e.holder e.limit e.accesses; time = left e.holder e.time e.ticks }
