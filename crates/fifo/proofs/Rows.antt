-- What a write and a step of the cursor do to the slots in their order round the end, and so to the elements that wait.
use Rattle.std.proofs.Common.{◌≡◌, ℕ, ◌+◌, ◌-◌, ◌%◌, ◌<◌, ◌≤◌, min, ltb, List, [], ◌∷◌, ◌++◌, length, get_or, take, drop, set, sym, ap, ◌∙◌, ⊎_elim, mod-eq_of_lt, add-one, Some, refl, arith, rules}
use native.Mathlib.Nat.{mod_self}
use Rattle.std.proofs.Math.Nat.{mod-eq-sub-mod}
use lib.Seq.{take-set-lt}
use Rattle.std.proofs.lemmas.List.{append-nil, append_assoc, length-append, length-take, length-drop, take_all, drop_all, drop-set-add, drop-set-lt, take-set-le, set-append_left, set-append_right, take_more_set, take-append-le, take_min, drop_more, take_more}
use Rattle.std.proofs.lemmas.Bool.{cases_lt, cond_both}
use Rattle.std.proofs.lemmas.Bool.Decides.{nat_tests}
use Rattle.fifo.specs.declared.cursor.Cursor.{Cursor}
use Rattle.fifo.specs.Row.{rotated, waiting, oldest, rest, start}

-- The slot `by` steps after `first` in a circle of `size` slots, past its end.
pub past_the_end : (first by size : ℕ) → first < size → by ≤ size → size - first ≤ by → by - (size - first) ≡ (first + by) % size
past_the_end first by size a b h = search (rules, mod-eq-sub-mod, mod-eq_of_lt)

pub start_below : (size : ℕ) (cursor : Cursor) → 0 < size → start size cursor < size
start_below size cursor h = grind (arith, nat_tests)

-- equal parts make equal cursors
pub same_cursor : {f i n m : ℕ} → f ≡ i → n ≡ m → ◌≡◌ {A = Cursor} (record { first = f; count = n }) (record { first = i; count = m })
same_cursor e h = cc

module _ {T : Type 0} where
  length-rotated : (s : List T) (f : ℕ) → length (rotated s f) ≡ length s
  length-rotated s f = simp (length-append, length-take, length-drop) (omega arith)

  pub length-waiting : (s : List T) (c : Cursor) → length (waiting s c) ≡ min c.count (length s)
  length-waiting s c = length-take c.count (rotated s c.first) ∙ ap (min c.count) (length-rotated s c.first)

  -- a first slot past the end is read as 0
  rotated_past : (s : List T) (f : ℕ) → length s ≤ f → rotated s f ≡ rotated s 0
  rotated_past s f h = rw (drop_all f s h, take_all f s h) (sym (append-nil s))

  rotated-start : (s : List T) (c : Cursor) → rotated s c.first ≡ rotated s (start (length s) c)
  rotated-start s c =
      cond_both
      (ltb c.first (length s))
      c.first
      0
      (λ f. rotated s c.first ≡ rotated s f)
      (λ p. refl)
      (λ p. rotated_past s c.first (grind (arith, nat_tests)))

  -- A write n slots after `f`, going round the end, is a write at n in the order from `f` on.
  write_on_this_side : (s : List T) (f n : ℕ) (x : T) → f + n < length s → rotated (set s (f + n) x) f ≡ set (rotated s f) n x
  write_on_this_side s f n x h =
      let a : n < length (drop f s) = simp length-drop (omega arith) in
      ap (λ r. r ++ take f (set s (f + n) x)) (drop-set-add f s n x)
      ∙ ap (λ r. set (drop f s) n x ++ r) (take-set-le f s (f + n) x (omega arith))
      ∙ sym (set-append_left (drop f s) (take f s) n x a)

  write_past_the_end : (s : List T) (f n : ℕ) (x : T) → f ≤ length s → length s - f ≤ n → n < length s → rotated (set s (n - (length s - f)) x) f ≡ set (rotated s f) n x
  write_past_the_end s f n x l h k =
      let i : n - (length s - f) < f = omega arith in
      ap (λ r. r ++ take f (set s (n - (length s - f)) x)) (drop-set-lt f s (n - (length s - f)) x i)
      ∙ ap (λ r. drop f s ++ r) (take-set-lt f s (n - (length s - f)) x i)
      ∙ sym (set-append_right (drop f s) (take f s) (length s - f) n x (length-drop f s) h)

  rotated_write : (s : List T) (f n : ℕ) (x : T) → f < length s → n < length s → rotated (set s ((f + n) % length s) x) f ≡ set (rotated s f) n x
  rotated_write s f n x a b =
      ⊎_elim
      (λ l. ap (λ i. rotated (set s i x) f) (mod-eq_of_lt l) ∙ write_on_this_side s f n x l)
      (λ l.
      let h : length s - f ≤ n = omega arith in
      ap (λ i. rotated (set s i x) f) (sym (past_the_end f n (length s) a (omega arith) h)) ∙ write_past_the_end s f n x (omega arith) h b)
      (cases_lt (f + n) (length s))

  -- So an element written into the free slot waits last.
  pub appended_waits : (s : List T) (c : Cursor) (f i : ℕ) (x : T) → c.count < length s → f ≡ start (length s) c → i ≡ (f + c.count) % length s → waiting (set s i x) (record { first = f; count = c.count + 1 }) ≡ waiting s c ++ x ∷ []
  appended_waits s c f i x h e a =
      let b : f < length s = rw e (start_below (length s) c (omega arith)) in
      let l : c.count < length (rotated s f) = omega (arith, length-rotated s f) in
      ap (λ j. take (c.count + 1) (rotated (set s j x) f)) a
      ∙ ap (take (c.count + 1)) (rotated_write s f c.count x b h)
      ∙ take_more_set (rotated s f) c.count x l
      ∙ ap (λ q. take c.count q ++ x ∷ []) (ap (rotated s) e ∙ sym (rotated-start s c))

  -- One step of `first`, going round the end, moves the head of the order to its back.
  rotated_head : (s : List T) (f : ℕ) (d : T) → f < length s → rotated s f ≡ get_or s f d ∷ (drop (f + 1) s ++ take f s)
  rotated_head s f d h = ap (λ r. r ++ take f s) (drop_more s f d h)

  rotated_next : (s : List T) (f : ℕ) (d : T) → f < length s → rotated s (f + 1) ≡ (drop (f + 1) s ++ take f s) ++ get_or s f d ∷ []
  rotated_next s f d h = ap (λ r. drop (f + 1) s ++ r) (take_more s f d h) ∙ sym (append_assoc (drop (f + 1) s) (take f s) (get_or s f d ∷ []))

  rotated_round : (s : List T) (f : ℕ) → f < length s → rotated s ((f + 1) % length s) ≡ rotated s (f + 1)
  rotated_round s f h =
      ⊎_elim
      (λ l. ap (rotated s) (mod-eq_of_lt l))
      (λ l.
      let e : f + 1 ≡ length s = omega arith in
      ap (λ m. rotated s (m % length s)) e ∙ ap (rotated s) (mod_self (length s)) ∙ sym (rotated_past s (f + 1) l))
      (cases_lt (f + 1) (length s))

  head_then_rest : (s : List T) (f n : ℕ) (d : T) → f < length s → n < length s → take (n + 1) (rotated s f) ≡ get_or s f d ∷ take n (rotated s ((f + 1) % length s))
  head_then_rest s f n d h k =
      let r : List T = drop (f + 1) s ++ take f s in
      let l : n ≤ length r = simp (length-append, length-take, length-drop) (omega arith) in
      ap (take (n + 1)) (rotated_head s f d h)
      ∙ ap (λ m. take m (get_or s f d ∷ r)) (add-one n)
      ∙ ap (λ q. get_or s f d ∷ q) (sym (ap (take n) (rotated_round s f h ∙ rotated_next s f d h) ∙ take-append-le n r (get_or s f d ∷ []) l))

  -- So what waits is the element in the first slot, and then what waits from the next slot on.
  pub waits_in_turn : (s : List T) (c : Cursor) (f i n : ℕ) (d : T) → n + 1 ≡ min c.count (length s) → f ≡ start (length s) c → i ≡ (f + 1) % length s → waiting s c ≡ get_or s f d ∷ waiting s (record { first = i; count = n })
  waits_in_turn s c f i n d h e a =
      let b : f < length s = rw e (start_below (length s) c (omega arith)) in
      let m : take c.count (rotated s f) ≡ take (n + 1) (rotated s f) =
      sym (take_min c.count (rotated s f)) ∙ ap (λ m. take m (rotated s f)) (ap (min c.count) (length-rotated s f) ∙ sym h) in
      ap (take c.count) (rotated-start s c ∙ ap (rotated s) (sym e))
      ∙ m
      ∙ head_then_rest s f n d b (omega arith)
      ∙ ap (λ j. get_or s f d ∷ take n (rotated s j)) (sym a)

  -- the element in the first slot, which its reader names, is the oldest
  pub oldest_waits : (s : List T) (c : Cursor) (x : T) → 0 < min c.count (length s) → x ≡ get_or s (start (length s) c) x → oldest (waiting s c) ≡ Some x
  oldest_waits s c x h e =
      let n : (min c.count (length s) - 1) + 1 ≡ min c.count (length s) = omega arith in
      ap oldest (waits_in_turn s c _ _ (min c.count (length s) - 1) x n refl refl) ∙ sym (ap Some e)

  -- and the rest is what waits from the next slot on
  pub rest_waits : (s : List T) (c : Cursor) (f i n : ℕ) → n + 1 ≡ min c.count (length s) → f ≡ start (length s) c → i ≡ (f + 1) % length s → waiting s (record { first = i; count = n }) ≡ rest (waiting s c)
  rest_waits [] c f i n h e a =
      let z : ⊥ = omega arith in
      absurd z
  rest_waits (x ∷ xs) c f i n h e a = sym (ap rest (waits_in_turn (x ∷ xs) c f i n x h e a))
