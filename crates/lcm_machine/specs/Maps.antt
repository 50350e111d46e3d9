-- Registers and memory as maps from places to words.
use Rattle.std.specs.Prelude.{List}
use Rattle.std.specs.List.{slice_index_or}
use Rattle.std.specs.Ordering.{nat_cmp}
use Rattle.std.specs.FinMap.{FinMap}
use Rattle.lcm_machine.specs.declared.cells.Span.{Span}

-- the sixteen registers, in the order of their numbers
pub record Regs (W : Type 0) : Type 0 where
  pub pc : W
  pub rcode : W
  pub rdata : W
  pub stk : W
  pub dat : W
  pub t1 : W
  pub t2 : W
  pub c1 : W
  pub c2 : W
  pub a0 : W
  pub a1 : W
  pub a2 : W
  pub a3 : W
  pub g0 : W
  pub g1 : W
  pub g2 : W

-- the cells by their addresses, and the spans in which an address may have one
pub record Memory (W : Type 0) : Type 0 where
  pub words : FinMap nat_cmp W
  pub spans : List Span

-- the registers, and memory: an address of a span has a cell, unless it is out for a while; no other address
-- has one
pub record State (W : Type 0) : Type 0 where
  pub regs : Regs W
  pub cells : FinMap nat_cmp W
  pub spans : List Span

-- the registers of a list in the order of their numbers, with a word for those past its end
abbrev pub regs_of : {W : Type 0} → W → List W → Regs W
regs_of z ws = record {
  pc = slice_index_or ws 0 z;
  rcode = slice_index_or ws 1 z;
  rdata = slice_index_or ws 2 z;
  stk = slice_index_or ws 3 z;
  dat = slice_index_or ws 4 z;
  t1 = slice_index_or ws 5 z;
  t2 = slice_index_or ws 6 z;
  c1 = slice_index_or ws 7 z;
  c2 = slice_index_or ws 8 z;
  a0 = slice_index_or ws 9 z;
  a1 = slice_index_or ws 10 z;
  a2 = slice_index_or ws 11 z;
  a3 = slice_index_or ws 12 z;
  g0 = slice_index_or ws 13 z;
  g1 = slice_index_or ws 14 z;
  g2 = slice_index_or ws 15 z;
}
