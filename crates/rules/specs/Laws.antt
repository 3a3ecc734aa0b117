-- The laws that every run keeps, whatever the description, the bank and the order of commands.
use Rattle.std.specs.Prelude.{◌≡◌, ℕ, ◌+◌, ◌<◌, ◌≤◌, Bool, true, ◌&&◌, ◌⊎◌, List, [], ◌∷◌, ◌++◌, length, nat_lt}
use Rattle.bank.specs.Queues.{Queue, Sound, at}
use Rattle.rules.specs.declared.command.Command.{Command}
use Rattle.rules.specs.declared.description.Description.{Description}
use Rattle.rules.specs.declared.route.Route.TheVariants.{Dma}
use Rattle.rules.specs.Checks.{Check, checks}
use Rattle.rules.specs.Description.{device, fixed, is_wired, untrusted}
use Rattle.rules.specs.Ends.{AlikeAt}
use Rattle.rules.specs.Ledger.{Event, ledger, opened, reading}
use Rattle.rules.specs.Refusal.{number}
use Rattle.rules.specs.Register.{unlimited}
use Rattle.rules.specs.State.{State, fresh, guard, owner, queue, register}
use Rattle.rules.specs.Transition.{answer, next}
use Rattle.rules.specs.Words.{all_left, all_received, all_sent, all_wiped}

-- A run from state s to state t: commands, each with the answer that the rules give it where it comes.
abbrev pub Runs : Description → State → List Event → State → Type 0
Runs d s [] t = s ≡ t
Runs d s (e ∷ es) t = (e.answer ≡ answer d s e.command) × Runs d (next d s e.command) es t

-- Every list of commands has a run, from any state, and no other one: so what holds of every run holds of every list.
abbrev pub commands : List Event → List Command
commands [] = []
commands (e ∷ es) = e.command ∷ commands es

pub record OneRun (d : Description) (s : State) (cs : List Command) : Type 0 where
  pub events : List Event
  pub end : State
  pub theirs : commands events ≡ cs
  pub runs : Runs d s events end
  pub only : (es : List Event) (t : State) → commands es ≡ cs → Runs d s es t → (es ≡ events) × (t ≡ end)

abbrev pub EachListHasOneRun : Type 0
EachListHasOneRun = (d : Description) (s : State) (cs : List Command) → OneRun d s cs

-- a limit or time that can stand: never 0, and no more than 12 bits hold
pub record Stands (figure : ℕ) : Type 0 where
  pub low : 1 ≤ figure
  pub high : figure ≤ unlimited

-- THE LAWS of a run es that ends in state t, on a rack made over a bank with the queues qs.
pub record Lawful (d : Description) (qs : List Queue) (es : List Event) (t : State) : Type 0 where
  -- each register reads the ledger's holder, and its grant less the counts
  pub held : (k : ℕ) → k < d.mailboxes → register t k ≡ reading ((ledger d es).account k)
  pub limits : (k : ℕ) → k < d.mailboxes → Stands (register t k).limit
  pub times : (k : ℕ) → k < d.mailboxes → Stands (register t k).time
  -- each guard is the ledger's
  pub guards : (x : ℕ) → x < d.domains → guard t x ≡ (ledger d es).guard x
  -- an owner is the manager or a domain wired to the mailbox
  pub wired : (k : ℕ) → k < d.mailboxes → (owner t k ≡ 0) ⊎ (is_wired d k (owner t k) ≡ true)
  -- the untrusted domain is fed only while it owns a mailbox fixed at the device domain
  pub fed : t.route ≡ Dma → (k : ℕ) × (k < d.mailboxes) × (owner t k ≡ untrusted d) × (fixed d k ≡ device d)
  -- the words sent are those that left and then those that wait, and so they add up
  pub kept : (k : ℕ) → k < d.mailboxes → all_sent k es ≡ all_left d opened k es ++ (queue t k).words
  pub counted : (k : ℕ) → k < d.mailboxes → length (all_sent k es) ≡ length (all_received k es) + length (all_wiped d opened k es) + length (queue t k).words
  -- any other run of the description, over any bank that is equally deep at a mailbox, is alike there
  pub alike : (ps : List Queue) → Sound ps → (fs : List Event) (u : State) → Runs d (fresh ps) fs u →
      (k : ℕ) → k < d.mailboxes → (at qs k).depth ≡ (at ps k).depth → AlikeAt d k es fs

abbrev pub RunsAreLawful : Type 0
RunsAreLawful = (d : Description) (qs : List Queue) → Sound qs → (es : List Event) (t : State) → Runs d (fresh qs) es t → Lawful d qs es t

-- The checks of a command are made in the order of their refusals' numbers.
abbrev pub rising : ℕ → List Check → Bool
rising n [] = true
rising n (check ∷ rest) = nat_lt n (number check.1) && rising (number check.1) rest

abbrev pub ChecksAreInOrder : Type 0
ChecksAreInOrder = (d : Description) (s : State) (c : Command) → rising 0 (checks d s c) ≡ true
