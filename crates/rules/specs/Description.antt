-- What an accepted description says, and what is answered to one that is handed in.
use Rattle.std.specs.Prelude.{ℕ, Bool, cond, List, length, Some, None, Option, slice_index_or}
use Rattle.rules.specs.declared.arbiter.Arbiter.{Arbiter}
use Rattle.rules.specs.declared.description.Description.{Description}
use Rattle.rules.specs.declared.wiring.Wiring.{Wiring}
use Rattle.rules.specs.Plan.{accepts, arbiter_of, holds}
use Rattle.rules.specs.Wiring.{no_wiring, padded}

abbrev pub wiring : Description → ℕ → Wiring
wiring d k = slice_index_or d.wirings k no_wiring

-- the fixed domain of mailbox k
abbrev pub fixed : Description → ℕ → ℕ
fixed d k = (wiring d k).fixed

-- domain x is wired to mailbox k
abbrev pub is_wired : Description → ℕ → ℕ → Bool
is_wired d k x = holds (wiring d k).wired x

-- The device domain and the untrusted domain, who are 0 where there is no arbiter.
abbrev pub device_of : Option Arbiter → ℕ
device_of None = 0
device_of (Some a) = a.device

abbrev pub untrusted_of : Option Arbiter → ℕ
untrusted_of None = 0
untrusted_of (Some a) = a.untrusted

abbrev pub device : Description → ℕ
device d = device_of d.arbiter

abbrev pub untrusted : Description → ℕ
untrusted d = untrusted_of d.arbiter

-- The parts of a description, without the proof that they keep the rules.
pub record Parts : Type 0 where
  pub domains : ℕ
  pub mailboxes : ℕ
  pub arbiter : Option Arbiter
  pub wirings : List Wiring

abbrev pub parts : Option Description → Option Parts
parts None = None
parts (Some d) = Some (record { domains = d.domains; mailboxes = d.mailboxes; arbiter = d.arbiter; wirings = d.wirings })

abbrev pub accept_answer : ℕ → ℕ → ℕ → List Wiring → Option Parts
accept_answer n device untrusted ws =
    let arbiter = arbiter_of device untrusted in
    cond (accepts n arbiter ws) (Some (record { domains = n; mailboxes = length ws; arbiter = arbiter; wirings = padded ws })) None
