use Rattle.std.proofs.Common.{reverse, sym, ◌∙◌, rules}
use Rattle.std.proofs.lemmas.List.{length-reverse}
use Rattle.frame_region.proofs.FrameLemmas.{length-stacked, length-lie}
use Rattle.frame_region.proofs.Region.frames.Goals as goal

pub overflow_cast-result : goal.overflow_cast-result
overflow_cast-result g c =
    let k = length-lie (reverse c.self.inside.slots.items) c.self.inside.used c.self.invariant.lie in
    let l = length-reverse c.self.inside.slots.items in
    let w = c.self.invariant.within in
    let f = c.self.invariant.fits in
    let n = c.len.ensures ∙ c.self.inside.slots.ok.0 in
    search (rules, k, l, w, f, n)

pub returns : goal.returns
returns g c =
    let l = length-reverse c.self.inside.slots.items in
    let s = length-stacked (reverse c.self.inside.slots.items) c.self.inside.items.items in
    rw (← c.self.view_is) (c.len.ensures ∙ c.self.inside.slots.ok.0 ∙ sym l ∙ sym s)
