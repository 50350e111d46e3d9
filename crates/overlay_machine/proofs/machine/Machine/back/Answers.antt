use Rattle.std.proofs.Common.{sym, subst}
use Rattle.overlay_machine.specs.Machine.{FitsRegion}
use Rattle.overlay_machine.proofs.FitsLemmas.{fits-returned, newest-whole}
use Rattle.overlay_machine.proofs.OutLemmas.{newest-out}
use Rattle.overlay_machine.proofs.machine.Machine.back.Goals as goal

pub returns-clause-fits : goal.returns-clause-fits
returns-clause-fits c =
    let n = newest-whole c.args.layout.now c.args.self.now.maps.spans c.args.self.now.frames.frames
    c.in-Some-newest.frame c.requires.fits.whole c.in-Some-newest.ensures in
    subst (FitsRegion c.args.layout.now) (sym c.resume.ensures)
    (fits-returned c.args.layout.now c.args.self.now c.args.r2 c.in-Some-site_code.code c.in-Some-own_stack.c
    c.in-Some-newest.frame c.requires.fits n.newest c.in-Some-newest.ensures)

pub resume-requires-clause-newest : goal.resume-requires-clause-newest
resume-requires-clause-newest c =
    (newest-whole c.args.layout.now c.args.self.now.maps.spans c.args.self.now.frames.frames
    c.in-Some-newest.frame c.requires.fits.whole c.in-Some-newest.ensures).newest

pub resume-requires-clause-space : goal.resume-requires-clause-space
resume-requires-clause-space c =
    (newest-whole c.args.layout.now c.args.self.now.maps.spans c.args.self.now.frames.frames
    c.in-Some-newest.frame c.requires.fits.whole c.in-Some-newest.ensures).last

pub resume-requires-clause-spanned : goal.resume-requires-clause-spanned
resume-requires-clause-spanned c =
    (newest-whole c.args.layout.now c.args.self.now.maps.spans c.args.self.now.frames.frames
    c.in-Some-newest.frame c.requires.fits.whole c.in-Some-newest.ensures).spanned

pub resume-requires-clause-none : goal.resume-requires-clause-none
resume-requires-clause-none c =
    newest-out c.args.self.now.maps.cells c.args.self.now.frames.frames c.in-Some-newest.frame
    c.in-Some-newest.ensures c.requires.fits.out
