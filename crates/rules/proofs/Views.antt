-- A rack seen at one mailbox, its register and its queue: what each part of a command does to that view.
use Rattle.std.proofs.Common.{◌≡◌, ℕ, zero, suc, ◌<◌, ◌≤◌, Bool, true, false, cond, eqb, ◌≢◌, length, get_or, set, sym, refl, ap, ◌∙◌, subst, ⊎_elim, arith}
use Rattle.std.proofs.lemmas.List.{length-set, get_or-set_same, get_or-set_other}
use Rattle.std.proofs.lemmas.Bool.{cases_eq, eqb-true, eqb-false, cond_both}
use Rattle.bank.specs.Queues.{Queue, at, change, no_queue, wiped}
use Rattle.rules.specs.declared.register.Register.{Register}
use Rattle.rules.specs.Register.{managers, ticked}
use Rattle.rules.specs.State.{State, no_register, queue, register, with_queues}
use Rattle.rules.specs.Transition.{aged, all_aged, charged, over_if, paid, transferred}

pub record Mail : Type 0 where
  pub register : Register
  pub queue : Queue

abbrev pub mail : State → ℕ → Mail
mail s k = record { register = register s k; queue = queue s k }

-- there is room for every mailbox, domain and queue
pub record Sized (s : State) : Type 0 where
  pub eight : length s.registers ≡ 8
  pub sixteen : length s.guards ≡ 16
  pub ten : length s.queues ≡ 10

-- What can happen to one mailbox.
abbrev pub given : Register → Mail → Mail
given r v = record { register = r; queue = wiped v.queue }

abbrev pub reading_as : Register → Mail → Mail
reading_as r v = record { register = r; queue = v.queue }

abbrev pub queueing : (Queue → Queue) → Mail → Mail
queueing f v = record { register = v.register; queue = f v.queue }

abbrev pub closed_if : Bool → Mail → Mail
closed_if over v = cond over (given managers v) v

abbrev pub pays : ℕ → Mail → Mail
pays c v = reading_as (paid c v.register) v

abbrev pub ages : Mail → Mail
ages v = reading_as (ticked v.register) v

abbrev pub spent : Mail → Bool
spent v = eqb v.register.limit 0

abbrev pub expired : Mail → Bool
expired v = eqb v.register.time 0

-- an access by caller c, which does f to the queue
abbrev pub accesses : ℕ → (Queue → Queue) → Mail → Mail
accesses c f v = let w = pays c (queueing f v) in closed_if (spent w) w

abbrev pub ticks : Mail → Mail
ticks v = let w = ages v in closed_if (expired w) w

-- A change of mailbox j as it is seen at mailbox k.
pub seen : (s t : State) (j k : ℕ) (f : Mail → Mail) → (k ≡ j → mail t j ≡ f (mail s j)) → (k ≢ j → mail t k ≡ mail s k) → mail t k ≡ cond (eqb k j) (f (mail s k)) (mail s k)
seen s t j k f here there =
    cond_both (eqb k j) (f (mail s k)) (mail s k) (λ v. mail t k ≡ v)
    (λ e. let p = eqb-true k j e in subst (λ (i : ℕ). mail t i ≡ f (mail s i)) (sym p) (here p))
    (λ e. there (eqb-false k j e))

module _ (s : State) (z : Sized s) (j : ℕ) (low : j < 8) where
  register_here : (r : Register) → get_or (set s.registers j r) j no_register ≡ r
  register_here r = let n = z.eight in get_or-set_same s.registers j r no_register (omega arith)

  pub queue_here : (f : Queue → Queue) → at (change f s.queues j) j ≡ f (queue s j)
  queue_here f = let n = z.ten in get_or-set_same s.queues j (f (queue s j)) no_queue (omega arith)

  pub transferred_here : (r : Register) → mail (transferred s j r) j ≡ given r (mail s j)
  transferred_here r = λ i. record { register = register_here r i; queue = queue_here wiped i }

  over_here : (over : Bool) (r : Register) → mail (over_if over s j r) j ≡ closed_if over (reading_as r (mail s j))
  over_here true r = transferred_here managers
  over_here false r = λ i. record { register = register_here r i; queue = queue s j }

  pub charged_here : (c : ℕ) → mail (charged c s j) j ≡ closed_if (spent (pays c (mail s j))) (pays c (mail s j))
  charged_here c = let r = paid c (register s j) in over_here (eqb r.limit 0) r

  pub aged_here : mail (aged s j) j ≡ ticks (mail s j)
  aged_here = let r = ticked (register s j) in over_here (eqb r.time 0) r

-- at another mailbox
module _ (s : State) (j k : ℕ) (other : k ≢ j) where
  pub queue_there : (f : Queue → Queue) → at (change f s.queues j) k ≡ queue s k
  queue_there f = get_or-set_other s.queues j k (f (queue s j)) no_queue other

  pub transferred_there : (r : Register) → mail (transferred s j r) k ≡ mail s k
  transferred_there r = λ i. record { register = get_or-set_other s.registers j k r no_register other i; queue = queue_there wiped i }

  over_there : (over : Bool) (r : Register) → mail (over_if over s j r) k ≡ mail s k
  over_there true r = transferred_there managers
  over_there false r = λ i. record { register = get_or-set_other s.registers j k r no_register other i; queue = queue s k }

  pub charged_there : (c : ℕ) → mail (charged c s j) k ≡ mail s k
  charged_there c = let r = paid c (register s j) in over_there (eqb r.limit 0) r

  pub aged_there : mail (aged s j) k ≡ mail s k
  aged_there = let r = ticked (register s j) in over_there (eqb r.time 0) r

-- What is kept by every change: the sizes, the guards and the route.
pub record Beside (s t : State) : Type 0 where
  pub registers : length t.registers ≡ length s.registers
  pub guards : t.guards ≡ s.guards
  pub route : t.route ≡ s.route
  pub queues : length t.queues ≡ length s.queues

pub sized_beside : (s t : State) → Sized s → Beside s t → Sized t
sized_beside s t z b = record { eight = b.registers ∙ z.eight; sixteen = ap length b.guards ∙ z.sixteen; ten = b.queues ∙ z.ten }

pub beside_then : (s t u : State) → Beside s t → Beside t u → Beside s u
beside_then s t u a b = record { registers = b.registers ∙ a.registers; guards = b.guards ∙ a.guards; route = b.route ∙ a.route; queues = b.queues ∙ a.queues }

pub transferred_beside : (s : State) (j : ℕ) (r : Register) → Beside s (transferred s j r)
transferred_beside s j r = record { registers = length-set s.registers j r; guards = refl; route = refl; queues = length-set s.queues j (wiped (queue s j)) }

over_beside : (over : Bool) (s : State) (j : ℕ) (r : Register) → Beside s (over_if over s j r)
over_beside true s j r = transferred_beside s j managers
over_beside false s j r = record { registers = length-set s.registers j r; guards = refl; route = refl; queues = refl }

pub queue_beside : (f : Queue → Queue) (s : State) (j : ℕ) → Beside s (with_queues s (change f s.queues j))
queue_beside f s j = record { registers = refl; guards = refl; route = refl; queues = length-set s.queues j (f (queue s j)) }

-- an access by caller c to mailbox j, which does f to its queue
module _ (c : ℕ) (f : Queue → Queue) (s : State) (j : ℕ) where
  abbrev pub done : State
  done = with_queues s (change f s.queues j)

  pub access_beside : Beside s (charged c done j)
  access_beside = let r = paid c (register s j) in beside_then s done (charged c done j) (queue_beside f s j) (over_beside (eqb r.limit 0) done j r)

  pub access_seen : Sized s → (k : ℕ) → k < 8 → mail (charged c done j) k ≡ cond (eqb k j) (accesses c f (mail s k)) (mail s k)
  access_seen z k low =
      seen s (charged c done j) j k (accesses c f)
      (λ e.
      let l : j < 8 = omega arith in
      charged_here done (sized_beside s done z (queue_beside f s j)) j l c
      ∙ ap (λ (u : Queue). let w : Mail = record { register = paid c (register s j); queue = u } in closed_if (spent w) w) (queue_here s z j l f))
      (λ n. charged_there done j k n c ∙ (λ i. record { register = register s k; queue = queue_there s j k n f i }))

-- a tick at each mailbox below n
pub aged_beside : (n : ℕ) (s : State) → Beside s (all_aged n s)
aged_beside zero s = record { registers = refl; guards = refl; route = refl; queues = refl }
aged_beside (suc n) s =
    let t = all_aged n s in
    let r = ticked (register t n) in
    beside_then s t (aged t n) (aged_beside n s) (over_beside (eqb r.time 0) t n r)

aged_past : (n : ℕ) (s : State) (k : ℕ) → n ≤ k → mail (all_aged n s) k ≡ mail s k
aged_past zero s k h = refl
aged_past (suc n) s k h = aged_there (all_aged n s) n k (λ e. omega arith) ∙ aged_past n s k (omega arith)

pub aged_seen : (n : ℕ) (s : State) → Sized s → n ≤ 8 → (k : ℕ) → k < n → mail (all_aged n s) k ≡ ticks (mail s k)
aged_seen zero s z h k l = absurd (omega arith)
aged_seen (suc n) s z h k l =
    let t = all_aged n s in
    let y = sized_beside s t z (aged_beside n s) in
    ⊎_elim
    (λ e. subst (λ (i : ℕ). mail (aged t n) i ≡ ticks (mail s i)) (sym e) (aged_here t y n (omega arith) ∙ ap ticks (aged_past n s n (omega arith))))
    (λ p. aged_there t n k p ∙ aged_seen n s z (omega arith) k (omega arith))
    (cases_eq k n)
