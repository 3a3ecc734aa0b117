-- The arbiter: the values that select where streamed words go, and the queues that they wait in.
use Rattle.std.specs.Prelude.{ℕ, cond, ◌==◌}
use Rattle.rules.specs.declared.description.Description.{Description}
use Rattle.rules.specs.declared.route.Route.{Route}
use Rattle.rules.specs.declared.route.Route.TheVariants.{Own, Dma}
use Rattle.rules.specs.Description.{device}

-- the value that selects DMA, and the value that selects the device's own queue
abbrev pub dma : ℕ
dma = 0xF0F0F0F0

abbrev pub own : ℕ
own = 0

abbrev pub selected : ℕ → Route
selected v = cond (v == dma) Dma Own

-- Queue 8 is the device domain's and queue 9 the untrusted domain's: where streamed words go, and whence they are pulled.
abbrev pub streams_to : Route → ℕ
streams_to Own = 8
streams_to Dma = 9

abbrev pub pulls_from : Description → ℕ → ℕ
pulls_from d c = cond (c == device d) 8 9
