-- `TStdReport::record` meets its contract. Each way out is a law of Search.
use Rattle.report.specs.Report.{unused_line}
use borrow.Author.Rules.{rules}
use borrow.Author.Tests.{tests}
use native.Mathlib.Omega.{arith}
use lib.ListN.{length-map}
use mathlib.Core.Path.{refl, sym}
use Rattle.std.proofs.lemmas.Iterator.{YieldsList-from_slice, YieldsList-from_take, IsFirst-from_position}
use Rattle.report.proofs.Search.{OfKey, OfOther, Found, Searched, told, refused_first, starts, found_at, found_none, merged, full_table, added}
use Rattle.report.proofs.TStdReport.record.Goals as goal
use Rattle.report.proofs.TStdReport.record.Goals.{After-position-found}

pub returns-then-self : goal.returns-then-self
returns-then-self c = told c.args.self c.args.v (sym (refused_first c.args.self c.args.v c.then-self.either))

start : (c : After-position-found) → Searched c.args.self c.args.v 0
start c = starts c.args.self c.args.v (grind (arith, length-map)) (search rules) (omega arith) c.if-self.false

-- what the search found
found : (c : After-position-found) → Found c.args.self c.args.v unused_line (start c) c.position-found.result
found c =
    IsFirst-from_position _ _ c.position-found.result (OfKey c.args.v) (OfOther c.args.v) c.position-found.ensures.ran (YieldsList-from_take _ (YieldsList-from_slice c.args.self.violations (cc)) c.take.ensures.count) (λ x q k. search (rules, tests)) (λ x q k. search (rules, tests))

pub returns-in-Some : goal.returns-in-Some
returns-in-Some c =
    let a = c.args in
    let at = found_at a.self a.v unused_line (start c.before.before.before) c.in-Some.i (rw c.in-Some.is at (found c.before.before.before)) in
    rw c.merge_worse-violation.ensures (told a.self a.v (sym (merged a.self a.v c.in-Some.i unused_line at.searched at.within at.key)))

pub returns-then-count-eq64 : goal.returns-then-count-eq64
returns-then-count-eq64 c =
    let a = c.args in
    let none = found_none a.self a.v unused_line (start c.before.before) (rw c.in_default.is at (found c.before.before)) in
    told a.self a.v (sym (full_table a.self a.v a.self.violation_count unused_line none (omega arith) c.if-count-eq64.true))

pub returns : goal.returns
returns c =
    let a = c.args in
    let none = found_none a.self a.v unused_line (start c.before.before) (rw c.in_default.is at (found c.before.before)) in
    told a.self a.v (sym (added a.self a.v a.self.violation_count unused_line none (omega arith) c.if-count-eq64.false _ refl))
