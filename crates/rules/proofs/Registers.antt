-- The parts of a register lie side by side in its word, and are read from it again.
use Rattle.std.proofs.Common.{◌≡◌, ℕ, ◌+◌, ◌*◌, ◌/◌, ◌%◌, ◌^◌, ◌<◌, ap, ◌∙◌, arith}
use lib.Bits.{bit_or}
use Rattle.std.proofs.lemmas.Nat.{or_shifted}
use Rattle.rules.specs.Register.{unpacked}

module _ (owner limit time : ℕ) (o : owner < 256) (l : limit < 4096) (t : time < 4096) where
  -- no part reaches into the bits of the next, so to join them by `|` is to add them
  pub side_by_side : bit_or (bit_or ((owner * 16777216) % 4294967296) ((limit * 4096) % 4294967296)) time ≡ owner * 2 ^ 24 + limit * 2 ^ 12 + time
  side_by_side =
      let a : (owner * 16777216) % 4294967296 ≡ owner * 16777216 = omega arith in
      let b : (limit * 4096) % 4294967296 ≡ limit * 4096 = omega arith in
      let c : owner * 16777216 + limit * 4096 ≡ (owner * 4096 + limit) * 4096 = omega arith in
      let d : (owner * 4096 + limit) * 4096 + time ≡ owner * 2 ^ 24 + limit * 2 ^ 12 + time = omega arith in
      ap (λ n. bit_or (bit_or n ((limit * 4096) % 4294967296)) time) a
      ∙ ap (λ n. bit_or (bit_or (owner * 16777216) n) time) b
      ∙ ap (λ n. bit_or n time) (or_shifted owner 24 (limit * 4096) (omega arith) ∙ c)
      ∙ or_shifted (owner * 4096 + limit) 12 time (omega arith)
      ∙ d

  pub parts : unpacked (owner * 2 ^ 24 + limit * 2 ^ 12 + time) ≡ record { owner = owner; limit = limit; time = time }
  parts =
      let a : (owner * 2 ^ 24 + limit * 2 ^ 12 + time) / 2 ^ 24 ≡ owner = omega arith in
      let b : (owner * 2 ^ 24 + limit * 2 ^ 12 + time) / 2 ^ 12 % 2 ^ 12 ≡ limit = omega arith in
      let c : (owner * 2 ^ 24 + limit * 2 ^ 12 + time) % 2 ^ 12 ≡ time = omega arith in
      λ i. record { owner = a i; limit = b i; time = c i }
