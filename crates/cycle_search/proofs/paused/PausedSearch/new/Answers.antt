use Rattle.std.proofs.Common.{◌≡◌, List, ℕ, length, get_or, slice_get, refl, sym, ap, subst, arith}
use Rattle.cycle_search.specs.CycleSearch.{AreAll, CycleFrom, IsPath}
use Rattle.cycle_search.specs.Distances.{AreDistances}
use Rattle.cycle_search.specs.Pausing.{IsListBefore, position_at}
use Rattle.cycle_search.proofs.Continuing.{first-none}
use Rattle.cycle_search.proofs.Paths.{path-one, root-alone}
use Rattle.cycle_search.proofs.paused.PausedSearch.new.Goals as goal

pub returns : goal.returns
returns c =
    let ds = c.args.search_input.now in
    let root = c.args.root in
    let bound = c.args.bound in
    let most = c.most_members-members.ensures in
    let one = root-alone root _ _ c.new-path.ensures c.push.ensures.items in
    let path = c.push.new.self.items in
    let first : get_or path 0 0 ≡ root = ap (λ (xs : List ℕ). get_or xs 0 0) one in
    record {
      search = record {
        bound_is = refl;
        root_is = refl;
        most = c.new.ensures.most;
        found = subst (λ xs. AreAll (IsListBefore (CycleFrom ds bound root) (position_at path root)) xs) (sym c.new.ensures.cycles)
            (first-none ds bound root (position_at path root) (ap (λ (xs : List ℕ). position_at xs root) one));
        within = most.within;
        eight = most.eight;
        all = most.all;
        can = λ some. record {
          begins = ap (λ (xs : List ℕ). slice_get xs 0) one;
          path = subst (IsPath ds) (sym one) (path-one ds root c.requires.root);
          room = omega (arith, some, ap (λ (xs : List ℕ). length xs) one);
          above = omega (arith, first);
          distances = subst (λ n. AreDistances ds n c.in_ok-distances.distances.items) first c.in_ok-distances.ensures;
        };
      };
    }
