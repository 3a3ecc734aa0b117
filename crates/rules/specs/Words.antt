-- The words through mailbox k in a run: those that were sent, those that were received, and those that were wiped.
use Rattle.std.specs.Prelude.{ℕ, cond, ◌&&◌, List, [], ◌∷◌, ◌++◌, is_ok, ◌==◌}
use Rattle.rules.specs.declared.command.Command.{Command}
use Rattle.rules.specs.declared.command.Command.TheVariants.{Delegate, Yield, Send, Receive, Status, GuardWrite, GuardRead, Arbiter, Stream, Pull, Tick}
use Rattle.rules.specs.declared.description.Description.{Description}
use Rattle.rules.specs.Ledger.{Event, Ledger, entered, fed, wipes}
use Rattle.rules.specs.Refusal.{value_of}

-- what an accepted command, answered with value v, puts into mailbox k, and what it takes out
abbrev pub passes : ℕ → Command → ℕ → List ℕ × List ℕ
passes k (Delegate c j to l t) v = ([], [])
passes k (Yield c j) v = ([], [])
passes k (Send c j w) v = (cond (k == j) (w ∷ []) [], [])
passes k (Receive c j) v = ([], cond (k == j) (v ∷ []) [])
passes k (Status c j) v = ([], [])
passes k (GuardWrite c x w) v = ([], [])
passes k (GuardRead c x) v = ([], [])
passes k (Arbiter c w) v = ([], [])
passes k (Stream w) v = ([], [])
passes k (Pull c) v = ([], [])
passes k Tick v = ([], [])

-- the word that was sent, the word that was received as answered, and the words that were wiped as the ledger has them
abbrev pub sent : ℕ → Event → List ℕ
sent k e = cond (is_ok e.answer) (passes k e.command (value_of e.answer)).0 []

abbrev pub received : ℕ → Event → List ℕ
received k e = cond (is_ok e.answer) (passes k e.command (value_of e.answer)).1 []

abbrev pub wiped : Description → Ledger → ℕ → Event → List ℕ
wiped d b k e = cond (is_ok e.answer && wipes d b e.command k) (entered k e.command (b.account k)).words []

-- the same of a whole run that begins at ledger b; those that left are in order of leaving
abbrev pub all_sent : ℕ → List Event → List ℕ
all_sent k [] = []
all_sent k (e ∷ es) = sent k e ++ all_sent k es

abbrev pub all_received : ℕ → List Event → List ℕ
all_received k [] = []
all_received k (e ∷ es) = received k e ++ all_received k es

abbrev pub all_wiped : Description → Ledger → ℕ → List Event → List ℕ
all_wiped d b k [] = []
all_wiped d b k (e ∷ es) = wiped d b k e ++ all_wiped d (fed d b e) k es

abbrev pub all_left : Description → Ledger → ℕ → List Event → List ℕ
all_left d b k [] = []
all_left d b k (e ∷ es) = (received k e ++ wiped d b k e) ++ all_left d (fed d b e) k es
