-- the cipher and the keystream: what a reader has to believe
pub mod Cipher
pub mod Combined
pub mod Field
pub mod Keystream
-- how the code keeps eight blocks, the wires of its circuit, and the round keys
pub mod Circuit
pub mod Planes
pub mod RoundKeys
