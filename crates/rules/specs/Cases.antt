-- The table of cases: what the rules say on examples that everybody agrees on, over queues of depth 16.
use Rattle.std.specs.Prelude.{◌≡◌, ℕ, List, [], ◌∷◌, ◌++◌, replicate, Some, None, refl}
use Rattle.std.proofs.Common.{lit≤}
use Rattle.rules.specs.declared.command.Command.{Command}
use Rattle.rules.specs.declared.command.Command.TheVariants.{Delegate, Yield, Send, Receive, Status, GuardWrite, GuardRead, Arbiter, Stream, Pull, Tick}
use Rattle.rules.specs.declared.description.Description.{Description}
use Rattle.rules.specs.declared.wiring.Direction.TheVariants.{FixedSends, OwnerSends}
use Rattle.rules.specs.Wiring.{padded}
use Rattle.rules.specs.Guard.{arm, try}
use Rattle.rules.specs.Refusal.{code, value_of}
use Rattle.rules.specs.Route.{dma, own}
use Rattle.rules.specs.State.{State, fresh, queue}
use Rattle.rules.specs.Transition.{answer, next}

-- The answers to a list of commands, each a code and a value, and the state after them.
abbrev pub answers : Description → State → List Command → List (ℕ × ℕ)
answers d s [] = []
answers d s (c ∷ cs) = (code (answer d s c), value_of (answer d s c)) ∷ answers d (next d s c) cs

abbrev pub after : Description → State → List Command → State
after d s [] = s
after d s (c ∷ cs) = after d (next d s c) cs

-- Five domains: the untrusted domain 1, the device domain 2, and 3 and 4. Mailbox 0 is fixed at the device, its owner
-- sends, and 0, 1 and 3 are wired to it; mailbox 1 is fixed at 4, which sends, and 0 and 1 are wired to it.
abbrev pub house : Description
house = record {
  domains = 5;
  mailboxes = 2;
  arbiter = Some (record { device = 2; untrusted = 1 });
  wirings = padded (record { fixed = 2; direction = OwnerSends; wired = 0b01011 } ∷ record { fixed = 4; direction = FixedSends; wired = 0b00011 } ∷ []);
  few = lit≤ tt;
  fewer = lit≤ tt;
  eight = refl;
  accepted = refl;
}

-- three domains and no arbiter; mailbox 0 is fixed at 2, its owner sends, and 0 and 1 are wired to it
abbrev pub small : Description
small = record {
  domains = 3;
  mailboxes = 1;
  arbiter = None;
  wirings = padded (record { fixed = 2; direction = OwnerSends; wired = 0b011 } ∷ []);
  few = lit≤ tt;
  fewer = lit≤ tt;
  eight = refl;
  accepted = refl;
}

abbrev pub made : State
made = fresh (replicate 10 (record { depth = 16; words = [] }))

abbrev pub told : List Command → List (ℕ × ℕ)
told cs = answers house made cs

abbrev pub left : List Command → State
left cs = after house made cs

-- a delegation of mailbox 0 to domain 1, and then sixteen words
abbrev pub sixteen : List Command
sixteen = Delegate 0 0 1 20 9 ∷ Send 1 0 101 ∷ replicate 14 (Send 1 0 102) ++ Send 1 0 103 ∷ []

-- DMA selected under domain 1's only holding at the device, a word streamed, the holding yielded, and a word streamed
abbrev pub fallback : List Command
fallback = Delegate 0 0 1 5 5 ∷ Arbiter 0 dma ∷ Stream 7 ∷ Yield 1 0 ∷ Stream 8 ∷ []

pub record Table : Type 0 where
  -- a limit of 0 or 4096 is refused, and so is such a time; 1 and 4095 are accepted
  pub limits : told (Delegate 0 0 1 0 5 ∷ Delegate 0 0 1 4096 5 ∷ Delegate 0 0 1 1 5 ∷ Yield 1 0 ∷ Delegate 0 0 1 4095 5 ∷ []) ≡ (13, 0) ∷ (13, 0) ∷ (0, 0) ∷ (0, 0) ∷ (0, 0) ∷ []
  pub times : told (Delegate 0 0 1 5 0 ∷ Delegate 0 0 1 5 4096 ∷ Delegate 0 0 1 5 1 ∷ Yield 1 0 ∷ Delegate 0 0 1 5 4095 ∷ []) ≡ (13, 0) ∷ (13, 0) ∷ (0, 0) ∷ (0, 0) ∷ (0, 0) ∷ []
  -- with time 1, one tick gives the mailbox back to the manager
  pub expiry : told (Delegate 0 0 1 5 1 ∷ Tick ∷ Status 0 0 ∷ []) ≡ (0, 0) ∷ (0, 0) ∷ (0, 0x00FFFFFF) ∷ []
  -- sixteen words wait; the seventeenth is refused and costs nothing
  pub waiting : (queue (left sixteen) 0).words ≡ 101 ∷ replicate 14 102 ++ 103 ∷ []
  pub seventeenth : answers house (left sixteen) (Status 1 0 ∷ Send 1 0 104 ∷ Status 1 0 ∷ []) ≡ (0, 0x01004009) ∷ (16, 0) ∷ (0, 0x01004009) ∷ []
  -- the second value to an idle guard resets nothing; to an armed one it does
  pub idle : told (Send 0 0 7 ∷ GuardWrite 0 2 try ∷ GuardRead 0 2 ∷ Receive 2 0 ∷ []) ≡ (0, 0) ∷ (0, 0) ∷ (0, 0x0000AAAA) ∷ (0, 7) ∷ []
  pub armed : told (Send 0 0 7 ∷ GuardWrite 0 2 arm ∷ GuardWrite 0 2 try ∷ GuardRead 0 2 ∷ Receive 2 0 ∷ []) ≡ (0, 0) ∷ (0, 0) ∷ (0, 0) ∷ (0, 0x0000AAAA) ∷ (17, 0) ∷ []
  -- an unknown caller is refused before an unknown mailbox
  pub unknown : told (Delegate 16 9 1 5 5 ∷ Yield 16 9 ∷ Send 16 9 7 ∷ Receive 16 9 ∷ Status 16 9 ∷ []) ≡ replicate 5 (5, 0)
  -- a yield by the manager, and one by a stranger
  pub yields : told (Delegate 0 0 1 5 5 ∷ Yield 0 0 ∷ Yield 3 0 ∷ []) ≡ (0, 0) ∷ (9, 0) ∷ (10, 0) ∷ []
  -- when the last holding at the device is yielded, the next streamed word is in queue 8
  pub streamed : (queue (left fallback) 8).words ≡ 8 ∷ []
  pub earlier : (queue (left fallback) 9).words ≡ 7 ∷ []
  -- the worked example of one cue: granted, sent, looked at, a blocked reset, received, the last word wiped, a stranger
  pub worked : answers small made (Delegate 0 0 1 2 60 ∷ Send 1 0 0x2A ∷ Status 2 0 ∷ GuardWrite 0 2 arm ∷ GuardWrite 0 2 try ∷ GuardRead 0 2 ∷ Receive 2 0 ∷ Send 1 0 0x2B ∷ Receive 2 0 ∷ Status 1 0 ∷ [])
      ≡ (0, 0) ∷ (0, 0) ∷ (0, 0x0100103C) ∷ (0, 0) ∷ (0, 0) ∷ (0, 0x0000FFFF) ∷ (0, 0x2A) ∷ (0, 0) ∷ (17, 0) ∷ (0, 0xFFFFFFFF) ∷ []
  -- a receiving owner: the fixed domain's words cost nothing, the second receive spends the limit, and the rest is wiped
  pub receiving : told (Delegate 0 1 1 2 9 ∷ Send 4 1 5 ∷ Send 4 1 6 ∷ Send 4 1 7 ∷ Send 1 1 8 ∷ Receive 4 1 ∷ Receive 1 1 ∷ Receive 1 1 ∷ Receive 1 1 ∷ Receive 0 1 ∷ Status 4 1 ∷ [])
      ≡ (0, 0) ∷ (0, 0) ∷ (0, 0) ∷ (0, 0) ∷ (11, 0) ∷ (11, 0) ∷ (0, 5) ∷ (0, 6) ∷ (10, 0) ∷ (17, 0) ∷ (0, 0x00FFFFFF) ∷ []
  -- delegations that are refused, each for the first reason that applies
  pub delegations : told (Delegate 3 2 0 0 0 ∷ Delegate 3 0 0 0 0 ∷ Delegate 3 0 4 0 0 ∷ Delegate 0 0 4 0 0 ∷ Delegate 0 0 1 0 0 ∷ Delegate 0 0 1 5 5 ∷ Delegate 0 0 3 5 5 ∷ [])
      ≡ (6, 0) ∷ (7, 0) ∷ (9, 0) ∷ (12, 0) ∷ (13, 0) ∷ (0, 0) ∷ (10, 0) ∷ []
  -- a stranger may look, and sees nothing; it may not send or receive
  pub strangers : told (Send 3 0 7 ∷ Receive 3 0 ∷ Status 3 0 ∷ Status 2 0 ∷ []) ≡ (10, 0) ∷ (10, 0) ∷ (0, 0xFFFFFFFF) ∷ (0, 0x00FFFFFF) ∷ []
  -- guards: not the manager's own, and only by the manager; a value between the two disarms; an owner's reset is blocked
  pub guards : told (GuardRead 0 0 ∷ GuardWrite 1 2 arm ∷ Delegate 0 0 1 5 5 ∷ GuardWrite 0 1 arm ∷ GuardWrite 0 1 7 ∷ GuardWrite 0 1 try ∷ GuardRead 0 1 ∷ GuardWrite 0 1 arm ∷ GuardWrite 0 1 try ∷ GuardRead 0 1 ∷ [])
      ≡ (7, 0) ∷ (9, 0) ∷ (0, 0) ∷ (0, 0) ∷ (0, 0) ∷ (0, 0) ∷ (0, 0x0000AAAA) ∷ (0, 0) ∷ (0, 0) ∷ (0, 0x0000FFFF) ∷ []
  -- the arbiter: unknown value, not entitled, selected, pulled by each side, selected back
  pub arbiter : told (Arbiter 0 5 ∷ Arbiter 0 dma ∷ Stream 3 ∷ Delegate 0 0 1 9 9 ∷ Arbiter 1 dma ∷ Arbiter 0 dma ∷ Stream 4 ∷ Pull 0 ∷ Pull 1 ∷ Pull 1 ∷ Arbiter 0 own ∷ Stream 5 ∷ Pull 2 ∷ Pull 2 ∷ [])
      ≡ (14, 0) ∷ (15, 0) ∷ (0, 0) ∷ (0, 0) ∷ (9, 0) ∷ (0, 0) ∷ (0, 0) ∷ (9, 0) ∷ (0, 4) ∷ (17, 0) ∷ (0, 0) ∷ (0, 0) ∷ (0, 3) ∷ (0, 5) ∷ []
  pub no_arbiter : answers small made (Arbiter 0 5 ∷ Stream 3 ∷ Pull 1 ∷ []) ≡ (8, 0) ∷ (8, 0) ∷ (8, 0) ∷ []
  -- resets of the device domain and of the untrusted domain
  pub resets : told (Stream 3 ∷ GuardWrite 0 2 arm ∷ GuardWrite 0 2 try ∷ Pull 2 ∷ Delegate 0 0 1 1 9 ∷ Arbiter 0 dma ∷ Stream 4 ∷ Send 1 0 7 ∷ GuardWrite 0 1 arm ∷ GuardWrite 0 1 try ∷ Pull 1 ∷ [])
      ≡ (0, 0) ∷ (0, 0) ∷ (0, 0) ∷ (17, 0) ∷ (0, 0) ∷ (0, 0) ∷ (0, 0) ∷ (0, 0) ∷ (0, 0) ∷ (0, 0) ∷ (17, 0) ∷ []
