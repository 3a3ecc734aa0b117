-- The lanes of a ring as queues: one changed lane is one changed queue, and what a lane answers its queue answers.
use Rattle.std.specs.Prelude.{◌≡◌, ℕ, zero, suc, ◌<◌, ◌≤◌, Bool, true, false, cond, List, [], ◌∷◌, ◌++◌, length, set, is_ok, Ok, Err, Result, ◌==◌, slice_index_or, slice_set, refl}
use Rattle.std.proofs.Common.{sym, ap, ◌∙◌, arith}
use Rattle.std.proofs.lemmas.List.{get_or-map, set-get_or, map-set, get_or_past, set_past, length-map}
use Rattle.std.proofs.lemmas.Bool.{cond-true, cond-false, ne_eqb}
use Rattle.std.specs.Option.{ok_or}
use Rattle.fifo.specs.Row.{oldest as oldest_of, put_answer as row_answer, put_waiting, rest}
use Rattle.fifo.proofs.Rows.{length-waiting}
use Rattle.bank.specs.Queues.{Queue, Sound, at, change, full, empty, oldest, no_queue, put_answer, grown, take_answer, shrunk}
use Rattle.bank.specs.Rings.{as_fault, lane_words, lane_queue, lane_queues, ring_queues}
use Rattle.bank.specs.declared.bank.Fault.{Fault}
use Rattle.bank.specs.declared.bank.Fault.TheVariants.{Full, Empty}
use Rattle.bank.specs.declared.ring.lane.Lane.{Lane}
use Rattle.bank.specs.declared.ring.Ring.{Ring}

-- The queue of a number that a lane has is that lane's; `l` is any lane, the default of the look-up.
pub at_lane : (lanes : List Lane) (q : ℕ) (l : Lane) → q < length lanes → at (lane_queues lanes) q ≡ lane_queue (slice_index_or lanes q l)
at_lane lanes q l within = get_or-map lane_queue lanes q l no_queue within

-- an equation between words is one between queues of depth 16
pub deep_16 : {ws vs : List ℕ} → ws ≡ vs → ◌≡◌ {A = Queue} (record { depth = 16; words = ws }) (record { depth = 16; words = vs })
deep_16 e = cc

-- A call finds `lane` as queue q, and leaves `after` in its place.
module _ (lanes : List Lane) (q : ℕ) (lane after : Lane) (found : at (lane_queues lanes) q ≡ lane_queue lane) where
  -- a changed lane is a changed queue, and no other
  pub change_lane : (f : Queue → Queue) → lane_queue after ≡ f (lane_queue lane) → lane_queues (slice_set lanes q after) ≡ change f (lane_queues lanes) q
  change_lane f e = map-set lane_queue lanes q after ∙ ap (set (lane_queues lanes) q) (e ∙ ap f (sym found))

  -- a lane with the same words is no change
  pub same_lane : lane_words after ≡ lane_words lane → lane_queues (slice_set lanes q after) ≡ lane_queues lanes
  same_lane e = change_lane (λ u. u) (deep_16 e) ∙ set-get_or (lane_queues lanes) q no_queue

  pub put_done : (word : ℕ) (r : Result (Unit {0}) Fault) → r ≡ as_fault (row_answer 16 (lane_words lane)) → lane_words after ≡ put_waiting 16 (lane_words lane) word
      → (r ≡ put_answer (lane_queues lanes) q) × (lane_queues (slice_set lanes q after) ≡ cond (is_ok r) (change (grown word) (lane_queues lanes) q) (lane_queues lanes))
  put_done word r = go (full (lane_queue lane)) (ap full found)
    where
      done : Result (Unit {0}) Fault → List Queue
      done t = cond (is_ok t) (change (grown word) (lane_queues lanes) q) (lane_queues lanes)

      go : (b : Bool) → full (at (lane_queues lanes) q) ≡ b → r ≡ as_fault (cond b (Err (record {})) (Ok tt)) → lane_words after ≡ cond b (lane_words lane) (lane_words lane ++ word ∷ [])
          → (r ≡ put_answer (lane_queues lanes) q) × (lane_queues (slice_set lanes q after) ≡ done r)
      go true h t e = (t ∙ sym (cond-true (full (at (lane_queues lanes) q)) (Err Full) (Ok tt) h), same_lane e ∙ ap done (sym t))
      go false h t e = (t ∙ sym (cond-false (full (at (lane_queues lanes) q)) (Err Full) (Ok tt) h), change_lane (grown word) (deep_16 e) ∙ ap done (sym t))

  pub take_done : (r : Result ℕ Fault) → r ≡ ok_or (oldest_of (lane_words lane)) Empty → lane_words after ≡ rest (lane_words lane)
      → (r ≡ take_answer (lane_queues lanes) q) × (lane_queues (slice_set lanes q after) ≡ cond (is_ok r) (change shrunk (lane_queues lanes) q) (lane_queues lanes))
  take_done r a e = go (lane_words lane) refl a
    where
      done : Result ℕ Fault → List Queue
      done t = cond (is_ok t) (change shrunk (lane_queues lanes) q) (lane_queues lanes)

      answer : Queue → Result ℕ Fault
      answer u = cond (empty u) (Err Empty) (Ok (oldest u))

      go : (ws : List ℕ) → lane_words lane ≡ ws → r ≡ ok_or (oldest_of ws) Empty → (r ≡ take_answer (lane_queues lanes) q) × (lane_queues (slice_set lanes q after) ≡ done r)
      go [] h t = (t ∙ sym (ap answer (found ∙ deep_16 h)), same_lane (e ∙ ap rest h ∙ sym h) ∙ ap done (sym t))
      go (w ∷ ws) h t = (
        t ∙ sym (ap answer (found ∙ deep_16 h) ∙ cond-false (length (w ∷ ws) == 0) (Err Empty) (Ok w) (ne_eqb (length (w ∷ ws)) 0 (omega arith))),
        change_lane shrunk (deep_16 e) ∙ ap done (sym t),
      )

-- A number that no lane has.
module _ (lanes : List Lane) (q : ℕ) (beyond : length lanes ≤ q) where
  pub at_none : at (lane_queues lanes) q ≡ no_queue
  at_none = get_or_past (lane_queues lanes) q no_queue (omega (arith, length-map lanes lane_queue))

  pub change_none : (f : Queue → Queue) → lane_queues lanes ≡ change f (lane_queues lanes) q
  change_none f = sym (set_past (lane_queues lanes) q (f (at (lane_queues lanes) q)) (omega (arith, length-map lanes lane_queue)))

-- What holds of every lane's queue, and of no queue where a number has none, holds of each number.
each_number : (P : Queue → Type 0) → ((l : Lane) → P (lane_queue l)) → (lanes : List Lane) (q : ℕ) → (length lanes ≤ q → P no_queue) → P (at (lane_queues lanes) q)
each_number P h [] q n = n (omega arith)
each_number P h (l ∷ lanes) zero n = h l
each_number P h (l ∷ lanes) (suc q) n = each_number P h lanes q (λ k. n (omega arith))

-- so a ring is 16 words deep in each queue that it has
pub depth_16 : (lanes : List Lane) (q : ℕ) → q < length lanes → (at (lane_queues lanes) q).depth ≡ 16
depth_16 lanes q h = each_number (λ u. u.depth ≡ 16) (λ l. refl) lanes q (λ k. absurd (omega (arith, h, k)))

pub ring_sound : (ring : Ring) → Sound (ring_queues ring)
ring_sound ring = record {
  ten = length-map ring.lanes lane_queue ∙ ring.ten;
  least = λ q h. each_number (λ u. 1 ≤ u.depth) (λ l. omega arith) ring.lanes q (λ k. absurd (omega (arith, ring.ten)));
  most = λ q. each_number (λ u. u.depth ≤ 4096) (λ l. omega arith) ring.lanes q (λ k. omega arith);
  fits = λ q. each_number (λ u. length u.words ≤ u.depth) (λ l. omega (arith, length-waiting l.slots l.cursor, l.sixteen)) ring.lanes q (λ k. omega arith);
}
