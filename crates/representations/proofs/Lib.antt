-- What layers over a representation share, and a floorplan read off what it tells.
pub mod Layers
pub mod GraphsRead
