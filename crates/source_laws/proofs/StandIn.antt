-- The theorem of sources: compiled procedures that stand in the parts of a link do what the modules mean,
-- against every code outside them.
use Rattle.std.proofs.Common.{◌≡◌, ℕ, map, true, Some, subst}
use Rattle.call_sequence.specs.Places.{begins_entry}
use Rattle.linked_starts.specs.Parts.{PartSeen}
use Rattle.linked_starts.specs.Started.{StartSeen}
use Rattle.linked_starts.specs.declared.owners.Owner.{Owner}
use Rattle.trusted_border.specs.declared.layout.SiteCode.{SiteCode}
use Rattle.trusted_border.specs.Layout.{site_code}
use Rattle.trusted_border.specs.Reaches.{site_of_seal}
use Rattle.overlay_machine.specs.declared.words.OWord.{OWord}
use Rattle.overlay_machine.specs.Events.{owner_now}
use Rattle.overlay_machine.specs.State.{OState}
use Rattle.overlay_machine.specs.Starting.{overlay_at}
use Rattle.overlay_machine.specs.Link.{Link, IsTrusted}
use Rattle.overlay_machine.specs.Linked.{IsLink}
use Rattle.run_lines.specs.Layout.{layout, part_name, entry_name}
use Rattle.proc_program.specs.declared.program.Program.{Program}
use Rattle.proc_semantics.specs.declared.value.Target.{Target}
use Rattle.source_laws.proofs.Refined.{World, found, part_of}
use Rattle.proc_semantics.specs.Values.{Store}
use Rattle.template_runs.specs.Public.{IsSharedAt}
use Rattle.template_runs.proofs.Offers.{At, DataIs, Named}
use Rattle.source_laws.specs.Sources.{MeansAlways}
use Rattle.source_laws.proofs.Parameters.{single}
use Rattle.source_laws.proofs.Feeds.{FedWords, registers_are}
use Rattle.source_laws.proofs.Meanwhile.{Meets}
use Rattle.source_laws.proofs.Leaving.{Rest}
use Rattle.source_laws.proofs.Compiled.{InScene, Stands, EnvIs, compiled}
use Rattle.source_laws.specs.Secrets.{LeavesNothing}
use Rattle.source_laws.proofs.All.{Bodies, Starting, source_law, secrets_law, wiped_law, words_law}
use Rattle.source_laws.specs.Words.{WordsTold}
use Rattle.source_laws.specs.Wiped.{WipedAlways}

-- How the modules show in a link: which entry of which part a procedure has, and how their globals stand in
-- the data of parts. The compiler's components and the layout of a linked start give what is asked of them.
module _ (world : World) (g : Link) (linked : IsLink g) (Begins : Target → PartSeen → ℕ → Type 0)
    (StoreIs : Store → (ℕ → OWord) → Type 0) where
  pub record StandIn : Type 0 where
    -- the layout has the names of trusted parts and of their entries, and the sites by their seals
    pub named : Named g
    pub sealed : (i : ℕ) (u : SiteCode) → site_code g.layout i ≡ Some u
        → site_of_seal g.layout u.seal ≡ Some i
    -- the name of a shared entry is that of the procedure that begins there
    pub target : (p : PartSeen) (k : ℕ) (ip : IsTrusted g p) (b : begins_entry p.component k ≡ true)
        → IsSharedAt p.component k → (t : Target)
        × (found world (part_name g.layout (named.owner p ip).part)
        (entry_name g.layout (named.owner p ip).part (named.entry p ip k b)) ≡ Some t) × Begins t p k
    -- and that of a part is its module's
    pub told : (t : Target) (p : PartSeen) (e k : ℕ) (q : OState) → Begins t p e → At g linked p k q
        → (w : Owner)
        → owner_now g.layout q ≡ Some w → part_name g.layout w.part ≡ part_of world t.home
    -- two words that code outside may hold are the pair that is told of them
    pub fed : FedWords world g linked Begins
    -- the code of each procedure stands in its part
    pub stands : (t : Target) (p : PartSeen) (e : ℕ) → Begins t p e
        → Stands world g linked Begins StoreIs t p e

  -- the overlay of a start is in the first shared main of the modules, with the whole stack, or outside
  abbrev pub StartsIn : ℕ → (ℕ → OWord) → OState → Type 0
  StartsIn =
      Starting (InScene world g linked Begins StoreIs)

  module _ (s : StandIn) where
    meets : Meets (InScene world g linked Begins StoreIs) s.named
    meets = record {
      target = s.target;
      told = λ t p e o q v mem b a w ow.
          s.told t p e a.offset q b (subst (λ x. At g linked x a.offset q) a.same_part a.at) w ow;
      single = single g linked Begins world;
      registers = registers_are world g linked Begins s.fed;
    }

    rest : Rest (InScene world g linked Begins StoreIs) s.named
    rest = record { sealed = s.sealed }

    -- each procedure does what it means, where all laws hold of fewer steps
    bodies : Bodies (InScene world g linked Begins StoreIs)
        (EnvIs world g linked Begins StoreIs) s.named meets rest
    bodies n laws t p e begins =
        compiled world g linked Begins StoreIs n t p e (s.stands t p e begins)
        (λ top ms fs ow. record { procs = λ m lt. (laws m lt).procs; waits = λ m lt. (laws m lt).waits })

    pub sources_mean : (stack : ℕ) (start : StartSeen) (mem : ℕ → OWord) → g.layout ≡ layout start
        → DataIs g linked mem (overlay_at start).state.maps.cells
        → StoreIs (map (λ (u : Program). u.globals) world.parts) mem
        → StartsIn stack mem (overlay_at start).state → MeansAlways world.parts stack start
    sources_mean =
        source_law (InScene world g linked Begins StoreIs)
        (EnvIs world g linked Begins StoreIs) s.named meets rest bodies

    pub words_meant : (stack : ℕ) (start : StartSeen) (mem : ℕ → OWord) → g.layout ≡ layout start
        → DataIs g linked mem (overlay_at start).state.maps.cells
        → StoreIs (map (λ (u : Program). u.globals) world.parts) mem
        → StartsIn stack mem (overlay_at start).state → WordsTold world.marks world.parts stack start
    words_meant =
        words_law (InScene world g linked Begins StoreIs)
        (EnvIs world g linked Begins StoreIs) s.named meets rest bodies

    pub leave_nothing : (stack : ℕ) (start : StartSeen) (mem : ℕ → OWord) → g.layout ≡ layout start
        → DataIs g linked mem (overlay_at start).state.maps.cells
        → StoreIs (map (λ (u : Program). u.globals) world.parts) mem
        → StartsIn stack mem (overlay_at start).state → LeavesNothing g start
    leave_nothing =
        secrets_law (InScene world g linked Begins StoreIs)
        (EnvIs world g linked Begins StoreIs) s.named meets rest bodies

    pub wiped_told : (stack : ℕ) (start : StartSeen) (mem : ℕ → OWord) → g.layout ≡ layout start
        → DataIs g linked mem (overlay_at start).state.maps.cells
        → StoreIs (map (λ (u : Program). u.globals) world.parts) mem
        → StartsIn stack mem (overlay_at start).state → WipedAlways g world.parts stack start
    wiped_told =
        wiped_law (InScene world g linked Begins StoreIs)
        (EnvIs world g linked Begins StoreIs) s.named meets rest bodies
