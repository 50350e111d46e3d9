mod Exports
mod Unmoved
mod Keeping
