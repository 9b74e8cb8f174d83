mod Helped
mod Stopping
mod Taking
mod Together
