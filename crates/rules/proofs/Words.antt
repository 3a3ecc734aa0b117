-- Each word sent is received, wiped or waiting, and none changes its place in the order.
use Rattle.std.proofs.Common.{◌≡◌, ℕ, ◌+◌, ◌<◌, Bool, true, false, cond, ◌&&◌, eqb, List, [], ◌∷◌, ◌++◌, length, get_or, sym, refl, ap, ◌∙◌, subst, append_assoc, append-nil, arith, length-append}
use Rattle.std.proofs.lemmas.Bool.{cond_both, eqb-true, true≢false}
use Rattle.fifo.specs.Row.{rest}
use Rattle.rules.specs.declared.command.Command.{Command}
use Rattle.rules.specs.declared.command.Command.TheVariants.{Delegate, Yield, Send, Receive, Status, GuardWrite, GuardRead, Arbiter, Stream, Pull, Tick}
use Rattle.rules.specs.declared.description.Description.{Description}
use Rattle.rules.specs.Checks.{accepted, checks}
use Rattle.rules.specs.Laws.{Runs}
use Rattle.rules.specs.Ledger.{Account, Event, Ledger, counted, due, entered, fed, granted, judged, listing, vacated, wipes}
use Rattle.rules.specs.Refusal.{value_of}
use Rattle.rules.specs.State.{State, queue}
use Rattle.rules.specs.Transition.{act, answer, next, value}
use Rattle.rules.specs.Words.{all_left, all_received, all_sent, all_wiped, passes, received, sent, wiped}
use Rattle.rules.proofs.Facts.{receives_some, told_value}
use Rattle.rules.proofs.Ledgers.{InStep, act_in_step, fed_in_step, says}

-- a list with a head, as a receive takes it apart
headed : (ws : List ℕ) → eqb (length ws) 0 ≡ false → ws ≡ get_or ws 0 0 ∷ rest ws
headed [] n = absurd (true≢false n)
headed (w ∷ ws) n = refl

-- a case for the mailbox that a command names, and one for the others
named : (t : Bool) (f e : Account) → (t ≡ true → f.words ≡ e.words) → e.words ≡ (cond t f e).words
named t f e h = cond_both t f e (λ (u : Account). e.words ≡ u.words) (λ p. sym (h p)) (λ p. refl)

-- What an accepted command puts in and takes out is what the ledger enters, before anything is wiped.
module _ (d : Description) (s : State) (k : ℕ) (e : Account) (q : (queue s k).words ≡ e.words) where
  entered_kept : (c : Command) → accepted d s c ≡ true → e.words ++ (passes k c (value d s c)).0 ≡ (passes k c (value d s c)).1 ++ (entered k c e).words
  entered_kept (Delegate c j to l t) a = append-nil e.words ∙ named (eqb k j) (granted to l t e) e (λ h. refl)
  entered_kept (Yield c j) a = append-nil e.words ∙ named (eqb k j && eqb c e.holder) (vacated e) e (λ h. refl)
  entered_kept (Send c j w) a = go (eqb k j)
    where
      go : (t : Bool) → e.words ++ cond t (w ∷ []) [] ≡ (cond t (counted c (listing (e.words ++ w ∷ []) e)) e).words
      go true = refl
      go false = append-nil e.words
  entered_kept (Receive c j) a = append-nil e.words ∙ go (eqb k j) refl
    where
      go : (t : Bool) → eqb k j ≡ t → e.words ≡ cond t (value d s (Receive c j) ∷ []) [] ++ (cond t (counted c (listing (rest e.words) e)) e).words
      go true h =
          let same : (queue s j).words ≡ e.words = ap (λ (i : ℕ). (queue s i).words) (sym (eqb-true k j h)) ∙ q in
          let some : eqb (length e.words) 0 ≡ false = ap (λ (ws : List ℕ). eqb (length ws) 0) (sym same) ∙ receives_some d s c j a in
          headed e.words some ∙ (λ i. get_or (sym same i) 0 0 ∷ rest e.words)
      go false h = refl
  entered_kept (Status c j) a = append-nil e.words
  entered_kept (GuardWrite c x v) a = append-nil e.words
  entered_kept (GuardRead c x) a = append-nil e.words
  entered_kept (Arbiter c v) a = append-nil e.words
  entered_kept (Stream w) a = append-nil e.words
  entered_kept (Pull c) a = append-nil e.words
  entered_kept Tick a = append-nil e.words

-- what is wiped, and then what waits
wiped_then : (t : Bool) (ws : List ℕ) (e : Account) → ws ≡ (cond t (listing [] (judged e)) (judged e)).words → cond t e.words [] ++ ws ≡ e.words
wiped_then true ws e h = ap (λ (l : List ℕ). e.words ++ l) h ∙ append-nil e.words
wiped_then false ws e h = h ∙ cond_both (due e) (vacated e) e (λ f. f.words ≡ e.words) (λ p. refl) (λ p. refl)

-- One command: what waited and what was put in are what left and what waits then.
module _ (d : Description) (s : State) (b : Ledger) (r : InStep d s b) (k : ℕ) (l : k < d.mailboxes) where
  act_kept : (c : Command) → accepted d s c ≡ true
      → (queue s k).words ++ (passes k c (value d s c)).0 ≡ ((passes k c (value d s c)).1 ++ cond (wipes d b c k) (entered k c (b.account k)).words []) ++ (queue (act d s c) k).words
  act_kept c a =
      let e = b.account k in
      let q = (r.mails k l).tallies.words in
      let out = (passes k c (value d s c)).1 in
      let ws = (queue (act d s c) k).words in
      let then = wiped_then (wipes d b c k) ws (entered k c e) ((act_in_step d s b r c a).mails k l).tallies.words in
      ap (λ (x : List ℕ). x ++ (passes k c (value d s c)).0) q ∙ entered_kept d s k e q c a ∙ ap (λ (x : List ℕ). out ++ x) (sym then)
      ∙ sym (append_assoc out (cond (wipes d b c k) (entered k c e).words []) ws)

  -- the same, with whether it was accepted and the value that it was answered
  abbrev Kept : Command → ℕ → Bool → State → Type 0
  Kept c v t u = (queue s k).words ++ cond t (passes k c v).0 [] ≡ (cond t (passes k c v).1 [] ++ cond (t && wipes d b c k) (entered k c (b.account k)).words []) ++ (queue u k).words

  event_kept : (e : Event) → e.answer ≡ answer d s e.command → (queue s k).words ++ sent k e ≡ (received k e ++ wiped d b k e) ++ (queue (next d s e.command) k).words
  event_kept e h = subst (λ (t : Bool). Kept e.command (value_of e.answer) t (next d s e.command)) (sym (says d s e h)) (go (accepted d s e.command) refl)
    where
      go : (t : Bool) → accepted d s e.command ≡ t → Kept e.command (value_of e.answer) t (cond t (act d s e.command) s)
      go true a =
          let v : value_of e.answer ≡ value d s e.command = ap value_of (h ∙ told_value (checks d s e.command) (value d s e.command) a) in
          subst (λ (n : ℕ). Kept e.command n true (act d s e.command)) (sym v) (act_kept e.command a)
      go false a = append-nil (queue s k).words

-- one event before the others
joined : (waits put all_put left all_left waiting_then waiting_last : List ℕ) → waits ++ put ≡ left ++ waiting_then → waiting_then ++ all_put ≡ all_left ++ waiting_last
    → waits ++ (put ++ all_put) ≡ (left ++ all_left) ++ waiting_last
joined ws ps pss ls lss vs us p q =
    sym (append_assoc ws ps pss) ∙ ap (λ (x : List ℕ). x ++ pss) p ∙ append_assoc ls vs pss ∙ ap (λ (x : List ℕ). ls ++ x) q ∙ sym (append_assoc ls lss us)

pub run_kept : (d : Description) (s : State) (b : Ledger) → InStep d s b → (es : List Event) (t : State) → Runs d s es t → (k : ℕ) → k < d.mailboxes
    → (queue s k).words ++ all_sent k es ≡ all_left d b k es ++ (queue t k).words
run_kept d s b r [] t q k l = append-nil (queue s k).words ∙ ap (λ (u : State). (queue u k).words) q
run_kept d s b r (e ∷ es) t q k l =
    let u = next d s e.command in
    joined (queue s k).words (sent k e) (all_sent k es) (received k e ++ wiped d b k e) (all_left d (fed d b e) k es) (queue u k).words (queue t k).words
    (event_kept d s b r k l e q.0) (run_kept d u (fed d b e) (fed_in_step d s b r e q.0) es t q.1 k l)

-- those that left were received or wiped
pub left_counted : (d : Description) (b : Ledger) (k : ℕ) (es : List Event) → length (all_left d b k es) ≡ length (all_received k es) + length (all_wiped d b k es)
left_counted d b k [] = refl
left_counted d b k (e ∷ es) = let more = left_counted d (fed d b e) k es in simp length-append (omega arith)
