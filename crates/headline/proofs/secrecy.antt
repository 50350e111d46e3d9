-- The words of open calls' frames are secret: open ranges lie apart and have cells, machines beside one
-- another write the same lines, and so on for as many instructions as there are.
pub mod OpenRanges
pub mod Beside
pub mod Secret
pub mod SecretInstance
