-- Eight places with the mailboxes' wirings written over the first of them.
use Rattle.std.proofs.Common.{◌≡◌, List, ◌++◌, length, drop, replicate, ap, ◌∙◌}
use Rattle.std.proofs.lemmas.List.{drop-replicate}
use Rattle.rules.specs.declared.wiring.Wiring.{Wiring}
use Rattle.rules.specs.Wiring.{no_wiring, padded}

pub written_over : (ws front : List Wiring) → front ≡ ws → front ++ drop (length ws) (replicate 8 no_wiring) ≡ padded ws
written_over ws front e = ap (λ (l : List Wiring). l ++ drop (length ws) (replicate 8 no_wiring)) e ∙ ap (λ (l : List Wiring). ws ++ l) (drop-replicate (length ws) 8 no_wiring)
