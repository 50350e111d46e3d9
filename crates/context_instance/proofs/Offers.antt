-- What the crates above cite: lemmas over the definitions of `specs/`, by what they are of.

-- a module with one procedure keeps the limits
pub use Rattle.context_instance.proofs.Modules.{module_fits}
-- an adversary, and what a module's component links with
pub use Rattle.context_instance.proofs.Links.{adversary, adversary_fits, adversary_is, outsider, parts_with}
pub use Rattle.context_instance.proofs.Links.{parts_of, each_with}
pub use Rattle.context_instance.proofs.Beginnings.{main, stack, Links, start, is_linked}
pub use Rattle.context_instance.proofs.Beginnings.{linked_start, other_there, main_there, beside_of}
-- modules that are one to code outside
pub use Rattle.context_instance.proofs.Apart.{are_one}
