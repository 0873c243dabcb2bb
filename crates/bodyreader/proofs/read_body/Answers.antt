use mathlib.Core.Path.{◌≡◌}
use native.Mathlib.Omega.{arith}
use Prim.Native.Nat.{zero-le}
use Rattle.base.proofs.Codes.{nots_past}
use Rattle.bodyreader.proofs.Words.{done_coded}
use Rattle.bodyreader.proofs.read_body.Goals as goal

pub returns-in-0 : goal.returns-in-0
returns-in-0 c =
    let s = c.args in
    λ a h kinds. done_coded s.book.now a s.counts s.k 0 s.at _ s.names.now _ s.cells.now s.cells.now s.values.now s.values.now c.in-0.is (c.name_line.ensures a s.cells.now s.values.now h)

pub returns-in-1 : goal.returns-in-1
returns-in-1 c =
    let s = c.args in
    λ a h kinds. done_coded s.book.now a s.counts s.k 1 s.at _ s.names.now _ s.cells.now s.cells.now s.values.now s.values.now c.in-1.is (c.name_line-in-1.ensures a s.cells.now s.values.now h)

pub returns-in-2 : goal.returns-in-2
returns-in-2 c =
    let s = c.args in
    λ a h kinds. done_coded s.book.now a s.counts s.k 2 s.at _ s.names.now _ s.cells.now s.cells.now s.values.now s.values.now c.in-2.is (c.name_line-in-2.ensures a s.cells.now s.values.now h)

pub returns-in-3 : goal.returns-in-3
returns-in-3 c =
    let s = c.args in
    λ a h kinds. done_coded s.book.now a s.counts s.k 3 s.at _ s.names.now _ s.cells.now _ s.values.now _ c.in-3.is (c.resource_line.ensures a h)

pub returns-in-4 : goal.returns-in-4
returns-in-4 c =
    let s = c.args in
    λ a h kinds. done_coded s.book.now a s.counts s.k 4 s.at _ s.names.now _ s.cells.now _ s.values.now _ c.in-4.is (c.resource_line-in-4.ensures a h)

pub returns-in-5 : goal.returns-in-5
returns-in-5 c =
    let s = c.args in
    λ a h kinds. done_coded s.book.now a s.counts s.k 5 s.at _ s.names.now _ s.cells.now _ s.values.now _ c.in-5.is (c.number_line.ensures a h)

pub returns-in-6 : goal.returns-in-6
returns-in-6 c =
    let s = c.args in
    λ a h kinds. done_coded s.book.now a s.counts s.k 6 s.at _ s.names.now _ s.cells.now _ s.values.now _ c.in-6.is (c.text_line.ensures a h)

pub returns-in-7 : goal.returns-in-7
returns-in-7 c =
    let s = c.args in
    λ a h kinds. done_coded s.book.now a s.counts s.k 7 s.at _ s.names.now _ s.cells.now _ s.values.now _ c.in-7.is (c.words_line.ensures a h)

pub returns-in-8 : goal.returns-in-8
returns-in-8 c =
    let s = c.args in
    λ a h kinds. done_coded s.book.now a s.counts s.k 8 s.at _ s.names.now s.names.now s.cells.now _ s.values.now s.values.now c.in-8.is (c.fact_line.ensures a s.values.now h kinds)

pub returns-in-9 : goal.returns-in-9
returns-in-9 c =
    let s = c.args in
    λ a h kinds. done_coded s.book.now a s.counts s.k 9 s.at _ s.names.now _ s.cells.now _ s.values.now _ c.in-9.is (c.shape_line.ensures a h)

pub returns-in_default : goal.returns-in_default
returns-in_default c =
    let s = c.args in
    let e : s.k ≡ 10 = let l = nots_past (Unit {0}) s.k 0 10 zero-le c.in_default.in_default-own.rest in let m = c.requires.1 in omega arith in
    λ a h kinds. done_coded s.book.now a s.counts s.k 10 s.at _ s.names.now s.names.now s.cells.now _ s.values.now s.values.now (e) (c.rule_line.ensures a s.values.now h)
