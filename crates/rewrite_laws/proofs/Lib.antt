pub mod SeesThere
pub mod AllThere
pub mod NumbersThere
pub mod ThereFaults
pub mod ThereSlots
pub mod Rewritten
