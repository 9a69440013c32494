mod Prunes
mod Measuring
