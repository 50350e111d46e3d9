-- What the crates above cite: lemmas over the definitions of `specs/`, by what they are of.

-- an image is read where it is spelled, and spelled where it was read
pub use Rattle.image_loader.proofs.ImageLaws.{read_whole}
