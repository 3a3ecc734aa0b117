-- What a mailbox shows on a cue's way from grant to screen, over any bank.
use Rattle.std.specs.Prelude.{ℕ, List, length}
use Rattle.bank.specs.Queues.{Queue, at}
use Rattle.rules.specs.Register.{packed}
use Rattle.rules.specs.declared.register.Register.{Register}
use Rattle.first_cue.specs.declared.story.Seen.{Seen}
use Rattle.first_cue.specs.declared.story.Story.{Story}

-- mailbox 0 uses queue 0
abbrev pub seen : Register → List Queue → Seen
seen register qs = record { register = packed register; waiting = length (at qs 0).words }

-- granted to domain 1 for 2 accesses and 60 ticks; one access and one tick later; and the manager's again
abbrev pub told : ℕ → Story
told cue = record {
  fresh = record { register = 0x00FFFFFF; waiting = 0 };
  granted = record { register = 0x0100203C; waiting = 0 };
  sent = record { register = 0x0100103C; waiting = 1 };
  aged = record { register = 0x0100103B; waiting = 1 };
  received = cue;
  emptied = record { register = 0x0100103B; waiting = 0 };
  ended = record { register = 0x00FFFFFF; waiting = 0 };
}
