-- `crc::feed_by` folds the groups of each size into the register, one size after the other, as the walk over a table does.
-- Assumes nothing.
use Rattle.std.proofs.Common.{rules, ◌≡◌, ◌∷◌, [], List, ℕ}
use Rattle.std.specs.List.{fold}
use Rattle.crc.specs.Table.{group_by}
use Rattle.crc.proofs.Walk.{fed_ones, fed_groups}
use Rattle.crc.proofs.feed_by.Goals as goal

pub returns : goal.returns
returns c =
    let t : List ℕ = c.args.table.now in
    let sixteens : c.fold-r.result ≡ fold (group_by 32 t 16) c.args.register c.as_chunks.result.0.now = search rules in
    let fours : c.fold-s.result ≡ fold (group_by 32 t 4) c.fold-r.result c.as_chunks-2.result.0.now = search rules in
    let ones : c.fold.result ≡ fold (λ x b. group_by 32 t 1 x (b ∷ [])) c.fold-s.result c.as_chunks-2.result.1.now = search rules in
    fed_groups 32 t 16 (4 ∷ 1 ∷ []) _ _ _ _ _ _ c.as_chunks.ensures.front c.as_chunks.ensures.back sixteens
    (fed_groups 32 t 4 (1 ∷ []) _ _ _ _ _ _ c.as_chunks-2.ensures.front c.as_chunks-2.ensures.back fours (fed_ones 32 t _ _ _ ones))
