-- What the two ends of a mailbox see while a domain holds it, and when that is alike in two runs.
use Rattle.std.specs.Prelude.{◌≡◌, ℕ, Bool, true, false, cond, ◌&&◌, ◌||◌, List, [], ◌∷◌, ◌++◌, Ok, ◌==◌, nat_eq}
use Rattle.rules.specs.declared.command.Command.{Command}
use Rattle.rules.specs.declared.command.Command.TheVariants.{Delegate, Yield, Send, Receive, Status, GuardWrite, GuardRead, Arbiter, Stream, Pull, Tick}
use Rattle.rules.specs.declared.description.Description.{Description}
use Rattle.rules.specs.Description.{fixed}
use Rattle.rules.specs.Ledger.{Event, Ledger, fed, holders, ledger}
use Rattle.rules.specs.Refusal.{Answer}

-- The commands that concern the holding of mailbox k by domain x: the ticks, and those that name the mailbox and
-- come from x or from the fixed domain.
abbrev pub by_an_end : Description → ℕ → ℕ → ℕ → ℕ → Bool
by_an_end d k x c j = j == k && (c == x || c == fixed d k)

abbrev pub concerns : Description → ℕ → ℕ → Command → Bool
concerns d k x (Delegate c j to l t) = by_an_end d k x c j
concerns d k x (Yield c j) = by_an_end d k x c j
concerns d k x (Send c j w) = by_an_end d k x c j
concerns d k x (Receive c j) = by_an_end d k x c j
concerns d k x (Status c j) = by_an_end d k x c j
concerns d k x (GuardWrite c y v) = false
concerns d k x (GuardRead c y) = false
concerns d k x (Arbiter c v) = false
concerns d k x (Stream w) = false
concerns d k x (Pull c) = false
concerns d k x Tick = true

abbrev pub concerning : Description → ℕ → ℕ → List Event → List Command
concerning d k x [] = []
concerning d k x (e ∷ es) = cond (concerns d k x e.command) (e.command ∷ concerning d k x es) (concerning d k x es)

-- one of them, its answer, and whether x still holds the mailbox after it
pub record Line : Type 0 where
  pub command : Command
  pub answer : Answer
  pub lasts : Bool

-- what the two ends saw of the holding, up to and including the command that ends it
abbrev pub lines : Description → ℕ → ℕ → Ledger → List Event → List Line
lines d k x b [] = []
lines d k x b (e ∷ es) =
    let after = fed d b e in
    let lasts = nat_eq (holders after k) x in
    let more = lines d k x after es in
    cond (concerns d k x e.command) (record { command = e.command; answer = e.answer; lasts = lasts } ∷ cond lasts more []) more

-- an accepted delegation of mailbox k
abbrev pub delegation : ℕ → ℕ → ℕ → ℕ → ℕ → ℕ → Event
delegation c k x l t v = record { command = Delegate c k x l t; answer = Ok v }

-- Take in each of two runs a delegation of mailbox k with one domain, limit and time, and any stretch of events that
-- follows it. Where the commands in the two stretches that concern the holding are the same, its two ends saw the same.
-- Nothing is asked of what came before, of the other commands, or of what follows.
abbrev pub AlikeAt : Description → ℕ → List Event → List Event → Type 0
AlikeAt d k es fs =
    (x l t c v c' v' : ℕ) (before during after before' during' after' : List Event) →
    es ≡ before ++ (delegation c k x l t v ∷ (during ++ after)) → fs ≡ before' ++ (delegation c' k x l t v' ∷ (during' ++ after')) →
    concerning d k x during ≡ concerning d k x during' →
    lines d k x (ledger d (before ++ delegation c k x l t v ∷ [])) during ≡ lines d k x (ledger d (before' ++ delegation c' k x l t v' ∷ [])) during'
